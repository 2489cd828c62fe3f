-- What a live request has gathered is what serial execution says, and stays so as the memory's answers come: its reply, and the old value of an
-- atomic. It knows the bridge's request, its gathered answers, and the places of reads among pieces and transfers; it hides them from
-- SerialReplies and SerialOldValues, which know lists of answers alone.
use Rattle.std.specs.List.{enumerate_from, slice_get}
use Rattle.std.proofs.Common.{◌≡◌, ℕ, ◌+◌, ◌%◌, ◌^◌, ◌≤◌, min, Bool, true, false, ◌&&◌, ◌||◌, List, [], ◌∷◌, length, Option, Some, None, if◌then◌else◌, refl, sym, ◌∙◌, ap, arith, not, subst, zero, suc, ◌-◌, ◌*◌, ◌/◌, ◌<◌, take, ◌==◌, is_some, IsSome}
use Rattle.std.proofs.lemmas.Bool.{leb-true, leb-false, and_parts, and_from, le-leb, eqb-true}
use Rattle.std.proofs.lemmas.List.{nil_from_length}
use Rattle.std.proofs.lemmas.Option.{slice_get_within}
use Rattle.tl_messages.specs.Operations.{has_data, reply_has_data}
use Rattle.tl_messages.specs.Requests.{HeldMessage, WholeRequest, request_of}
use Rattle.tl_messages.specs.declared.Operation.{Operation}
use Rattle.tl_messages.specs.declared.Operation.TheVariants.{Atomic}
use Rattle.tl_messages.specs.declared.AtomicOp.{AtomicOp}
use Rattle.axi_beats.specs.Transfers.{IsBusWidth, transfer_address, transfer_end, transfer_has}
use Rattle.axi_beats.specs.declared.RBeat.{RBeat}
use Rattle.axi_beats.specs.declared.Resp.{Resp}
use Rattle.axi_beats.specs.Responses.{is_okay}
use Rattle.data_unit.specs.Words.{value}
use Rattle.tl_checker.specs.Sound.{IsSound}
use Rattle.burst_plan.specs.PageMap.{IsPageMap, translated_address, address_of}
use Rattle.burst_plan.specs.Pieces.{PlannedRange, pieces, beat_size}
use Rattle.burst_plan.specs.declared.Region.{Region}
use Rattle.burst_plan.specs.PlannedTransfers.{beat_bytes, burst_beats, burst_bytes}
use Rattle.burst_plan.specs.declared.Piece.{Piece}
use Rattle.burst_plan.proofs.PieceLaws.{DividesEvenly, burst_count, divides_evenly, piece_at, piece_listed, slice_get-pieces, piece_within}
use Rattle.burst_plan.proofs.TransferPlaces.{transfer_end-at, transfer_start-at}
use Rattle.responses.specs.Answers.{after_reads, after_writes}
use Rattle.responses.specs.Gathered.{Gathering, after_b, after_r, gathered, gathering_of, reads_of, is_atomic, old_value}
use Rattle.responses.specs.Shown.{shown}
use Rattle.responses.specs.declared.gather.Outline.{Outline}
use Rattle.responses.proofs.AnswerLaws.{no_bytes}
use Rattle.flight_table.specs.Laws.{IsSoundRequest}
use Rattle.flight_table.specs.LiveRequests.{LiveRequest, pieces_planned, plan_for, planned, read_pieces, write_pieces, is_settled}
use Rattle.flight_table.specs.declared.TableLimits.{TableLimits}
use Rattle.flight_table.proofs.PhaseLaws.{length_reading, length_writing}
use Rattle.config.specs.Configs.{is_valid, port_of}
use Rattle.bridge_core.specs.Laws.{IsServed, answered_pieces, beats_in}
use Rattle.bridge_core.specs.HeldRequests.{BridgedRequest, outline_in, range_at, reply_beats, value_found, after_read, after_response}
use Rattle.config.specs.declared.Config.{Config}
use Rattle.bridge_core.proofs.PlannedPieces.{plan_known, some_pieces, atomic_plan, live_plan}
use Rattle.bridge_core.proofs.ServedRequests.{reads_came, IsReading}
use Rattle.bridge_core.proofs.ReadCounts.{config_parts, leads_there, reads_counted, uncorrupt_address}
use Rattle.bridge_core.proofs.AnswerLinks.{beats_in-next, answered_next}
use Rattle.bridge_core.proofs.SentBursts.{plannable, piece_of_plan}
use Rattle.subordinate.specs.Faults.{Faults, is_bad, is_good, standing_at, Standing, read_response, read_response_on, write_response}
use Rattle.subordinate.proofs.EffectLaws.{okay_is_good}
use Rattle.world_run.specs.InOrder.{HasGathered, IsGathered, TellsAt, TellsSerially}
use Rattle.meaning.specs.Meaning.{Bytes, Effect, effect_at, meaning, bytes_at}
use Rattle.world_run.specs.Serial.{Order, bytes_before}
use Rattle.meaning.proofs.SerialReplies.{HasAllAnswers, IsAnsweredAs, is_put, reply_at, gathering_told, in_page, standing_of}
use Rattle.meaning.proofs.SerialOldValues.{old_value_at}
use Rattle.world_run.proofs.BytesLeft.{FindsSerially}
use Rattle.world_run.proofs.gathered.GatheredSteps.{read_told, response_told, settled_gathered, with_read_told, with_response_told}
use Rattle.flight_table.specs.LiveRequests as live

-- ---- a message at its AXI address

-- it is at most a page, aligned, and at the same byte of a page
pub record IsTranslated (config : Config) (message : HeldMessage) (address : ℕ) : Type 0 where
  pub width : IsBusWidth config.axi_bytes
  pub small : message.size ≤ 12
  pub aligned : message.address % 2 ^ message.size ≡ 0
  pub same_byte : address % 4096 ≡ message.address % 4096

pub translated_to : (config : Config) (regions : List Region) (message : HeldMessage) (address : ℕ) → is_valid config ≡ true → IsPageMap regions → IsSound (port_of config message.client) message
    → address_of regions (request_of message) ≡ Some address → IsTranslated config message address
translated_to config regions message address valid pages sound at =
    let parts = config_parts config valid in
    let leads = leads_there regions (request_of message) address pages (uncorrupt_address message.corrupt (translated_address regions (request_of message)) address at) in
    record { width = parts.bus; small = omega (arith, sound.size, parts.max_size); aligned = sound.aligned; same_byte = leads.same_byte }

-- ---- no more reads are gathered than there are

came_most : (bus_bytes : ℕ) (outline : Outline) (reads : List (ℕ × RBeat)) (g : Gathering) → g.came ≤ reads_of bus_bytes outline → (after_reads bus_bytes outline reads g).came ≤ reads_of bus_bytes outline
came_most bus_bytes outline [] g few = few
came_most bus_bytes outline (read ∷ reads) g few = came_most bus_bytes outline reads (after_r bus_bytes outline read.1 read.0 g) (least (g.came + 1) (reads_of bus_bytes outline))
  where
    least : (a b : ℕ) → min a b ≤ b
    least a b = omega arith

came_of_writes : (writes : List Resp) (g : Gathering) → (after_writes writes g).came ≡ g.came
came_of_writes [] g = refl
came_of_writes (resp ∷ writes) g = came_of_writes writes (after_b resp g)

-- what was gathered are the answers of a memory that holds what the request finds
pub answered_as : (order : Order) (config : Config) (request : BridgedRequest) (address : ℕ) → IsTranslated config request.message address → (told : HasGathered order config.axi_bytes request address)
    → IsAnsweredAs order.faults config.axi_bytes (outline_in request) address (bytes_before order request.flight.number) told.reads told.responses
answered_as order config request address fits told =
    record {
      width = fits.width;
      small = fits.small;
      aligned = fits.aligned;
      same_byte = fits.same_byte;
      few = rw (told.came, told.gathered, came_of_writes told.responses reads_alone) (came_most config.axi_bytes (outline_in request) (enumerate_from 0 told.reads) (gathering_of (outline_in request) false) (omega arith));
      response = λ k r there. (told.tell k r there).response;
      bytes = λ k r there. (told.tell k r there).bytes;
      responded = told.responded;
    }
  where
    reads_alone : Gathering
    reads_alone = after_reads config.axi_bytes (outline_in request) (enumerate_from 0 told.reads) (gathering_of (outline_in request) false)

-- ---- how many answers came

-- what is not an Intent has a plan
plan_there : (operation : Operation) (plan : Option PlannedRange) → (reply_has_data operation || is_put operation) ≡ true → plan_for operation plan ≡ plan
plan_there operation plan is = grind (arith, is)

pub has_range : (order : Order) (config : Config) (request : BridgedRequest) (address : ℕ) → IsServed config order.regions request → address_of order.regions (request_of request.message) ≡ Some address
    → (reply_has_data request.message.operation || is_put request.message.operation) ≡ true → request.flight.plan ≡ Some (range_at config (request_of request.message) address)
has_range order config request address served at sends = grind (arith, served, at, sends)

-- all reads came, once their bursts were answered
pub all_reads : (order : Order) (config : Config) (request : BridgedRequest) (address : ℕ) → is_valid config ≡ true → IsServed config order.regions request
    → address_of order.regions (request_of request.message) ≡ Some address → reply_has_data request.message.operation ≡ true → answered_pieces request.flight ≡ read_pieces request.flight
    → reads_of config.axi_bytes (outline_in request) ≤ request.gathering.came
all_reads order config request address valid served at has whole =
    let plan = has_range order config request address served at (rw has refl) in
    let counted = reads_counted config order.regions request (range_at config (request_of request.message) address) valid served.pages served plan in
    omega (arith, counted, ap beats_in whole, served.came)

-- a request that is done has an answer to each burst of its phase
all_answered : (config : Config) (order : Order) (limits : TableLimits) (accepted : ℕ) (request : BridgedRequest) → IsServed config order.regions request → IsSoundRequest limits accepted request.flight
    → request.flight.done ≡ true → request.flight.answered ≡ length (planned request.flight)
all_answered config order limits accepted request served sound done = grind (arith, served, sound, done)

-- and all its reads came
done_reads : (flight : LiveRequest) → flight.answered ≡ length (planned flight) → answered_pieces flight ≡ read_pieces flight
done_reads flight all = grind (arith, reads_came, length_reading, all)

-- no response came before a write was answered
pub no_responses : (order : Order) (bus_bytes : ℕ) (request : BridgedRequest) (address : ℕ) → (told : HasGathered order bus_bytes request address)
    → (if request.flight.writing then request.flight.answered else 0) ≡ 0 → told.responses ≡ []
no_responses order bus_bytes request address told none = nil_from_length told.responses (told.answered ∙ none)

-- a Put writes with all pieces of its plan
put_sides : (operation : Operation) → is_put operation ≡ true → (reply_has_data operation ≡ false) × (has_data operation ≡ true)
put_sides operation is = grind (arith, is)

-- what has data is a Put or an atomic
carries_none : (operation : Operation) → is_put operation ≡ false → (reply_has_data operation && has_data operation) ≡ false → has_data operation ≡ false
carries_none operation isnt other = grind (arith, isnt, other)

-- all answers to a request that is done
all_came : (order : Order) (config : Config) (limits : TableLimits) (accepted : ℕ) (request : BridgedRequest) (address : ℕ) → is_valid config ≡ true → IsServed config order.regions request
    → IsSoundRequest limits accepted request.flight → request.flight.done ≡ true → address_of order.regions (request_of request.message) ≡ Some address
    → (told : HasGathered order config.axi_bytes request address) → HasAllAnswers order.faults config.axi_bytes (outline_in request) address told.reads told.responses
all_came order config limits accepted request address valid served sound done at told =
    record {
      all_reads = λ has.
          let most = all_reads order config request address valid served at has (done_reads request.flight answered) in
          let few = (answered_as order config request address fits told).few in
          omega (arith, most, few, told.came);
      one_response = λ put.
          let plan = has_range order config request address served at (either put) in
          let some : 1 ≤ length (pieces_planned request.flight.plan) = rw plan (some_planned plan) in
          by_put (ap is_put served.flight.operation ∙ put) some;
      others = λ isnt failed. by_flag request.flight.writing refl (ap is_put served.flight.operation ∙ isnt) failed;
    }
  where
    fits : IsTranslated config request.message address
    fits = translated_to config order.regions request.message address valid served.pages served.message at

    answered : request.flight.answered ≡ length (planned request.flight)
    answered = all_answered config order limits accepted request served sound done

    by_put : is_put request.flight.operation ≡ true → 1 ≤ length (pieces_planned request.flight.plan) → 1 ≤ length told.responses
    by_put put some = grind (arith, put_sides, length_writing, put, some)

    either : is_put request.message.operation ≡ true → (reply_has_data request.message.operation || is_put request.message.operation) ≡ true
    either put = grind (arith, put)

    some_planned : request.flight.plan ≡ Some (range_at config (request_of request.message) address) → 1 ≤ length (pieces (range_at config (request_of request.message) address))
    some_planned plan =
        some_pieces config request.message (range_at config (request_of request.message) address)
        (plan_known config order.regions request.message (range_at config (request_of request.message) address) valid served.pages served.message (sym served.flight.plan ∙ plan))

    by_flag : (writing : Bool) → request.flight.writing ≡ writing → is_put request.flight.operation ≡ false → is_good (standing_at order.faults address) ≡ false → told.responses ≡ []
    by_flag true writes isnt failed = by_kind (live.reads_then_writes request.flight) refl
      where
        by_kind : (b : Bool) → live.reads_then_writes request.flight ≡ b → told.responses ≡ []
        by_kind true atomic =
            let good = okay_is_good (standing_at order.faults address) (is_bad order.faults address) (told.readable atomic writes) in
            absurd (cc (good, failed))
        by_kind false other =
            let none : length (write_pieces request.flight) ≡ 0 = rw (carries_none request.flight.operation isnt other) refl in
            no_responses order config.axi_bytes request address told (rw writes (omega (arith, answered, length_writing request.flight writes, none)))
    by_flag false reads isnt failed = no_responses order config.axi_bytes request address told (rw reads refl)

-- ---- the reply

meaning_at : (faults : Faults) (regions : List Region) (q : WholeRequest) (m : Bytes) → meaning faults regions q m ≡ effect_at faults q m (address_of regions q)
meaning_at faults regions q m = grind arith

gathered_reply : (order : Order) (config : Config) (limits : TableLimits) (accepted : ℕ) (request : BridgedRequest) → is_valid config ≡ true → IsServed config order.regions request
    → IsSoundRequest limits accepted request.flight → request.flight.done ≡ true → (place : Option ℕ) → address_of order.regions (request_of request.message) ≡ place
    → IsGathered order config.axi_bytes request place
    → gathered (outline_in request) request.gathering ≡ (effect_at order.faults (request_of request.message) (bytes_before order request.flight.number) place).reply
gathered_reply order config limits accepted request valid served sound done None at told =
    ap (gathered (outline_in request)) told ∙ no_bytes (outline_in request) (gathering_of (outline_in request) true) refl
gathered_reply order config limits accepted request valid served sound done (Some address) at told =
    ap (gathered (outline_in request)) told.gathered
    ∙ reply_at order.faults config.axi_bytes (request_of request.message) request.message.operation address (bytes_before order request.flight.number) told.reads told.responses
    (answered_as order config request address (translated_to config order.regions request.message address valid served.pages served.message at) told)
    (all_came order config limits accepted request address valid served sound done at told) served.message.atomic_size

-- the reply to a request that is done is that of serial execution
pub reply_served_by : (order : Order) (config : Config) (limits : TableLimits) (accepted : ℕ) (request : BridgedRequest) → is_valid config ≡ true → IsServed config order.regions request
    → IsSoundRequest limits accepted request.flight → request.flight.done ≡ true
    → IsGathered order config.axi_bytes request (address_of order.regions (request_of request.message))
    → reply_beats request ≡ shown (request_of request.message) (meaning order.faults order.regions (request_of request.message) (bytes_before order request.flight.number)).reply
reply_served_by order config limits accepted request valid served sound done told =
    ap (shown (request_of request.message))
    (gathered_reply order config limits accepted request valid served sound done (address_of order.regions (request_of request.message)) refl told
    ∙ sym (ap (λ (e : Effect). e.reply) (meaning_at order.faults order.regions (request_of request.message) (bytes_before order request.flight.number))))

-- ---- the old value of an atomic

-- the number that a request finds at its address, where its range can be read
abbrev pub number_there : Order → BridgedRequest → ℕ → Option ℕ
number_there order request address =
    if is_okay (read_response order.faults address) then Some (value (bytes_at (bytes_before order request.flight.number) address (2 ^ request.message.size))) else None

-- all reads of an atomic came, and no response
pub old_value_by : (order : Order) (config : Config) (request : BridgedRequest) (address : ℕ) → IsTranslated config request.message address → is_atomic request.message.operation ≡ true → request.message.size ≤ 3
    → (told : HasGathered order config.axi_bytes request address) → reads_of config.axi_bytes (outline_in request) ≤ request.gathering.came → told.responses ≡ [] → value_found request ≡ number_there order request address
old_value_by order config request address fits atomic small told most none = by_responses told.responses none told.gathered (answered_as order config request address fits told)
  where
    by_responses : (responses : List Resp) → responses ≡ [] → request.gathering ≡ gathering_told config.axi_bytes (outline_in request) told.reads responses
        → IsAnsweredAs order.faults config.axi_bytes (outline_in request) address (bytes_before order request.flight.number) told.reads responses → value_found request ≡ number_there order request address
    by_responses [] is gathered answers =
        let few = answers.few in
        ap (old_value (outline_in request)) gathered
        ∙ old_value_at order.faults config.axi_bytes (outline_in request) address (bytes_before order request.flight.number) told.reads answers atomic small (omega (arith, few, most, told.came))
    by_responses (resp ∷ responses) is gathered answers = absurd (cc (is))

pub atomic_small : (operation : Operation) (size : ℕ) → is_atomic operation ≡ true → ((op : AtomicOp) → operation ≡ Atomic op → size ≤ 3) → (reply_has_data operation ≡ true) × (size ≤ 3)
atomic_small operation size is small = grind (arith, is, small)

-- the old value of an atomic whose reads all came and of which no write was answered
pub old_value_served : (order : Order) (config : Config) (request : BridgedRequest) (address : ℕ) → is_valid config ≡ true → IsServed config order.regions request
    → address_of order.regions (request_of request.message) ≡ Some address → is_atomic request.message.operation ≡ true → answered_pieces request.flight ≡ read_pieces request.flight
    → (if request.flight.writing then request.flight.answered else 0) ≡ 0 → HasGathered order config.axi_bytes request address → value_found request ≡ number_there order request address
old_value_served order config request address valid served at atomic whole none told =
    let (has, small) = atomic_small request.message.operation request.message.size atomic served.message.atomic_size in
    let fits = translated_to config order.regions request.message address valid served.pages served.message at in
    let most = all_reads order config request address valid served at has whole in
    old_value_by order config request address fits atomic small told most (no_responses order config.axi_bytes request address told none)

-- an atomic that isn't done and writes has had no response: its one write isn't answered
pub writes_unanswered : (order : Order) (config : Config) (limits : TableLimits) (accepted : ℕ) (request : BridgedRequest) → is_valid config ≡ true → IsServed config order.regions request
    → IsSoundRequest limits accepted request.flight → request.flight.done ≡ false → live.reads_then_writes request.flight ≡ true → request.flight.writing ≡ true → request.flight.answered ≡ 0
writes_unanswered order config limits accepted request valid served sound undone atomic writing = grind (arith, live_plan, atomic_plan, leb-false, length_writing, valid, served, sound, undone, atomic, writing)

-- what reads and writes is an atomic
pub atomic_is : (operation : Operation) → (reply_has_data operation && has_data operation) ≡ true → is_atomic operation ≡ true
atomic_is operation is = grind (arith, is)

-- a range can be read where its page is good and its word isn't bad
pub readable_is : (faults : Faults) (address : ℕ) → is_okay (read_response faults address) ≡ (is_good (standing_at faults address) && not (is_bad faults address))
readable_is faults address = by_both (standing_at faults address) (is_bad faults address)
  where
    by_both : (standing : Standing) (bad : Bool) → is_okay (read_response_on standing bad) ≡ (is_good standing && not bad)
    by_both standing bad = grind arith

-- ---- where it is the number at the address

found_where : (okay good bad : Bool) (number : ℕ) → okay ≡ (good && not bad) → good ≡ true → bad ≡ false → (if okay then Some number else None) ≡ Some number
found_where okay good bad number is there fine = rw (is, there, fine) refl

okay_there : (okay : Bool) (number : ℕ) → IsSome (if okay then Some number else None) → okay ≡ true
okay_there okay number found = grind (arith, found)

isnt_bad : (bad : Bool) → not bad ≡ true → bad ≡ false
isnt_bad bad is = grind (arith, is)

pub finds_number : (order : Order) (request : BridgedRequest) (address : ℕ) → value_found request ≡ number_there order request address → FindsSerially order request address
finds_number order request address is =
    record {
      found = λ good fine. is ∙ found_where okay (is_good (standing_at order.faults address)) (is_bad order.faults address) number (readable_is order.faults address) good fine;
      page = λ some. (both some).0;
      word = λ some. isnt_bad (is_bad order.faults address) (both some).1;
    }
  where
    okay : Bool
    okay = is_okay (read_response order.faults address)

    number : ℕ
    number = value (bytes_at (bytes_before order request.flight.number) address (2 ^ request.message.size))

    both : IsSome (value_found request) → (is_good (standing_at order.faults address) ≡ true) × (not (is_bad order.faults address) ≡ true)
    both some = grind (arith, some)

-- ---- it is, once the reads were answered and nothing else

gathered_at : (order : Order) (bus_bytes : ℕ) (request : BridgedRequest) (place : Option ℕ) (address : ℕ) → place ≡ Some address → IsGathered order bus_bytes request place → HasGathered order bus_bytes request address
gathered_at order bus_bytes request place address at told = subst (IsGathered order bus_bytes request) at told

pub finds_old_value : (order : Order) (config : Config) (request : BridgedRequest) (address : ℕ) → is_valid config ≡ true → IsServed config order.regions request
    → address_of order.regions (request_of request.message) ≡ Some address → live.reads_then_writes request.flight ≡ true → answered_pieces request.flight ≡ read_pieces request.flight
    → (if request.flight.writing then request.flight.answered else 0) ≡ 0
    → IsGathered order config.axi_bytes request (address_of order.regions (request_of request.message)) → FindsSerially order request address
finds_old_value order config request address valid served at atomic whole none told =
    finds_number order request address
    (old_value_served order config request address valid served at
    (atomic_is request.message.operation (sym (ap (λ operation. reply_has_data operation && has_data operation) served.flight.operation) ∙ atomic)) whole none
    (gathered_at order config.axi_bytes request (address_of order.regions (request_of request.message)) address at told))

-- an atomic that isn't done and writes
pub finds_writing : (order : Order) (config : Config) (limits : TableLimits) (accepted : ℕ) (request : BridgedRequest) (address : ℕ) → is_valid config ≡ true → IsServed config order.regions request
    → IsSoundRequest limits accepted request.flight → request.flight.done ≡ false → live.reads_then_writes request.flight ≡ true → request.flight.writing ≡ true
    → address_of order.regions (request_of request.message) ≡ Some address → IsGathered order config.axi_bytes request (address_of order.regions (request_of request.message))
    → FindsSerially order request address
finds_writing order config limits accepted request address valid served sound live atomic writing at told =
    finds_old_value order config request address valid served at atomic (rw writing refl) (rw writing (writes_unanswered order config limits accepted request valid served sound live atomic writing)) told

-- an atomic that is done and only read
pub finds_unplanned : (order : Order) (config : Config) (limits : TableLimits) (accepted : ℕ) (request : BridgedRequest) (address : ℕ) → is_valid config ≡ true → IsServed config order.regions request
    → IsSoundRequest limits accepted request.flight → request.flight.done ≡ true → live.reads_then_writes request.flight ≡ true → request.flight.writing ≡ false
    → address_of order.regions (request_of request.message) ≡ Some address → IsGathered order config.axi_bytes request (address_of order.regions (request_of request.message))
    → FindsSerially order request address
finds_unplanned order config limits accepted request address valid served sound done atomic isnt at told =
    let settles = leb-true (length (planned request.flight)) request.flight.answered (sym served.done ∙ done) in
    finds_old_value order config request address valid served at atomic (reads_came request.flight isnt (omega (arith, settles, length_reading request.flight isnt))) (rw isnt refl) told

-- ---- the transfers before a burst

beats_before : (range : PlannedRange) → DividesEvenly range → (k : ℕ) → k ≤ burst_count range → beats_in (take k (pieces range)) ≡ k * burst_beats range
beats_before range even zero few = let none : 0 * burst_beats range ≡ 0 = omega arith in sym none
beats_before range even (suc k) few =
    let here = slice_get-pieces range even k (omega (arith, few)) in
    let more = beats_in-next (pieces range) k (piece_at range k) here in
    let rest = beats_before range even k (omega (arith, few)) in
    let next : suc k ≡ k + 1 = omega arith in
    let rows : (k + 1) * burst_beats range ≡ k * burst_beats range + burst_beats range = omega arith in
    rw next (omega (arith, more, rest, rows, even.some_beats))

-- ---- where a transfer lies in its range

-- the transfer of a place: its first byte, and that it has the bytes of its place
pub record IsTransferOf (range : PlannedRange) (piece : Piece) (n place : ℕ) : Type 0 where
  pub first : transfer_address piece.address piece.size n ≡ range.address + place * min (2 ^ range.size) range.bus_bytes
  pub has :
      (x : ℕ) → range.address ≤ x → (x - range.address) / min (2 ^ range.size) range.bus_bytes ≡ place → transfer_has piece.address piece.size n x ≡ true

within : (width start place x : ℕ) → 0 < width → start ≤ x → (x - start) / width ≡ place → (start + place * width ≤ x) × (x < start + place * width + width)
within width start place x some low is = grind (arith, some, low, is)

transfer_at : (range : PlannedRange) → DividesEvenly range → (k n : ℕ) → IsTransferOf range (piece_at range k) (n + 1) (k * burst_beats range + n)
transfer_at range even k n =
    record {
      first = start ∙ begins;
      has = λ x low is.
          let (above, below) = within (beat_bytes range) range.address (k * burst_beats range + n) x even.beat low (ap (λ z. (x - range.address) / z) even.wide ∙ is) in
          let from : transfer_address (piece_at range k).address (beat_size range) (n + 1) ≤ x = omega (arith, start, begun, above) in
          let to : x ≤ transfer_end (piece_at range k).address (beat_size range) (n + 1) = omega (arith, end, begun, below) in
          and_from _ _ (le-leb _ _ from) (le-leb _ _ to);
    }
  where
    one : 1 ≤ n + 1
    one = omega arith

    back : n + 1 - 1 ≡ n
    back = omega arith

    start : transfer_address (piece_at range k).address (beat_size range) (n + 1) ≡ range.address + k * burst_bytes range + n * beat_bytes range
    start = transfer_start-at range even k (n + 1) one ∙ ap (λ z. range.address + k * burst_bytes range + z * beat_bytes range) back

    end : transfer_end (piece_at range k).address (beat_size range) (n + 1) + 1 ≡ range.address + k * burst_bytes range + n * beat_bytes range + beat_bytes range
    end = transfer_end-at range even k (n + 1) one ∙ ap (λ z. range.address + k * burst_bytes range + z * beat_bytes range + beat_bytes range) back

    begun : range.address + k * burst_bytes range + n * beat_bytes range ≡ range.address + (k * burst_beats range + n) * beat_bytes range
    begun = ap (λ z. range.address + k * z + n * beat_bytes range) even.beats ∙ omega arith

    begins : range.address + k * burst_bytes range + n * beat_bytes range ≡ range.address + (k * burst_beats range + n) * min (2 ^ range.size) range.bus_bytes
    begins = begun ∙ ap (λ z. range.address + (k * burst_beats range + n) * z) even.wide

-- ---- a read of a request

read_has : (has : Bool) (parts : List Piece) (k : ℕ) (piece : Piece) → slice_get (if has then parts else []) k ≡ Some piece → has ≡ true
read_has has parts k piece found = grind (arith, found)

-- the next beat of a read, as one of the transfers of the request's range
transfer_of_read : (order : Order) (config : Config) (request : BridgedRequest) (address : ℕ) (piece : Piece) (n : ℕ) → is_valid config ≡ true → IsServed config order.regions request
    → address_of order.regions (request_of request.message) ≡ Some address → IsReading request piece n
    → IsTransferOf (range_at config (request_of request.message) address) piece (n + 1) request.gathering.came
transfer_of_read order config request address piece n valid served at reading =
    subst (λ (p : Piece). IsTransferOf range p (n + 1) request.gathering.came) (sym listed.1)
    (subst (IsTransferOf range (piece_at range k) (n + 1)) place (transfer_at range even k n))
  where
    range : PlannedRange
    range = range_at config (request_of request.message) address

    k : ℕ
    k = request.flight.answered

    read : slice_get (read_pieces request.flight) k ≡ Some piece
    read = rw reading.reads at reading.burst

    has : reply_has_data request.flight.operation ≡ true
    has = read_has (reply_has_data request.flight.operation) (pieces_planned request.flight.plan) k piece read

    sends : reply_has_data request.message.operation ≡ true
    sends = ap reply_has_data (sym served.flight.operation) ∙ has

    plan : request.flight.plan ≡ Some range
    plan = has_range order config request address served at (rw sends refl)

    parts : read_pieces request.flight ≡ pieces range
    parts = rw (has, plan) refl

    even : DividesEvenly range
    even = divides_evenly range (plannable config order.regions request range valid served.pages served plan).0

    listed : (k < burst_count range) × (piece ≡ piece_at range k)
    listed = piece_listed range even k piece (rw parts at read)

    place : k * burst_beats range + n ≡ request.gathering.came
    place =
        let before : beats_in (answered_pieces request.flight) ≡ k * burst_beats range = rw (reading.reads, parts) (beats_before range even k (omega (arith, listed.0))) in
        omega (arith, before, reading.came)

-- the next beat of a read tells, at its place, what the request finds
pub place_of_read : (order : Order) (config : Config) (request : BridgedRequest) (address : ℕ) (piece : Piece) (n : ℕ) (r : RBeat) → is_valid config ≡ true → IsServed config order.regions request
    → address_of order.regions (request_of request.message) ≡ Some address → IsReading request piece n
    → TellsSerially order request.flight.number config.axi_bytes piece (n + 1) r.payload r.resp → TellsAt order config.axi_bytes request address request.gathering.came r
place_of_read order config request address piece n r valid served at reading tells =
    let transfer = transfer_of_read order config request address piece n valid served at reading in
    record {
      response = tells.response ∙ ap (read_response order.faults) transfer.first;
      bytes = λ x okay read. tells.bytes x okay (transfer.has x read.first read.counted);
    }

-- ---- a read

-- what has an old value is an atomic
found_atomic : (outline : Outline) (gathering : Gathering) → is_some (old_value outline gathering) ≡ true → is_atomic outline.operation ≡ true
found_atomic outline gathering found = grind (arith, found)

found_readable : (okay : Bool) (number : ℕ) → is_some (if okay then Some number else None) ≡ true → okay ≡ true
found_readable okay number found = grind (arith, found)

-- with the last read of all, an atomic finds its old value where its range can be read
last_readable : (order : Order) (config : Config) (request : BridgedRequest) (piece : Piece) (count address : ℕ) (r : RBeat) → is_valid config ≡ true → IsServed config order.regions request
    → address_of order.regions (request_of request.message) ≡ Some address → IsReading request piece count → count ≡ piece.len
    → HasGathered order config.axi_bytes (with_read_told config.axi_bytes r true request) address
    → is_settled (with_read_told config.axi_bytes r true request).flight ≡ true → is_some (value_found (with_read_told config.axi_bytes r true request)) ≡ true
    → is_okay (read_response order.faults address) ≡ true
last_readable order config request piece count address r valid served at reading last told settles found =
    found_readable (is_okay (read_response order.faults address)) _ (ap (λ (o : Option ℕ). is_some o) (sym value_is) ∙ found)
  where
    new : BridgedRequest
    new = with_read_told config.axi_bytes r true request

    number : (reply_has_data request.message.operation ≡ true) × (request.message.size ≤ 3)
    number = atomic_small request.message.operation request.message.size (found_atomic (outline_in request) new.gathering found) served.message.atomic_size

    whole : answered_pieces new.flight ≡ read_pieces request.flight
    whole = reads_came new.flight reading.reads (omega (arith, leb-true (length (planned request.flight)) (request.flight.answered + 1) settles, length_reading request.flight reading.reads))

    counted : beats_in (read_pieces request.flight) ≡ reads_of config.axi_bytes (outline_in request)
    counted =
        reads_counted config order.regions request (range_at config (request_of request.message) address) valid served.pages served
        (has_range order config request address served at (rw number.0 refl))

    most : reads_of config.axi_bytes (outline_in request) ≤ min (request.gathering.came + 1) (reads_of config.axi_bytes (outline_in request))
    most = omega (arith, counted, ap beats_in whole, answered_next request.flight piece reading.reads (rw reading.reads at reading.burst), reading.came, last)

    value_is : value_found new ≡ number_there order new address
    value_is =
        old_value_by order config new address (translated_to config order.regions request.message address valid served.pages served.message at)
        (found_atomic (outline_in request) new.gathering found) number.1 told most
        (no_responses order config.axi_bytes new address told (rw reading.reads refl))

-- one more read that tells what the request finds
pub gathered-read : (order : Order) (config : Config) (request : BridgedRequest) (piece : Piece) (count address : ℕ) (r : RBeat) → is_valid config ≡ true → IsServed config order.regions request
    → address_of order.regions (request_of request.message) ≡ Some address → IsReading request piece count → r.last ≡ (count == piece.len)
    → request.gathering.came < reads_of config.axi_bytes (outline_in request) → TellsAt order config.axi_bytes request address request.gathering.came r
    → HasGathered order config.axi_bytes request address → HasGathered order config.axi_bytes (after_read config.axi_bytes r request) address
gathered-read order config request piece count address r valid served at reading last few tells told =
    settled_gathered order config.axi_bytes (with_read_told config.axi_bytes r r.last request) address (by_last r.last refl) (told_more r.last)
  where
    told_more : (b : Bool) → HasGathered order config.axi_bytes (with_read_told config.axi_bytes r b request) address
    told_more b = read_told order config.axi_bytes request address r told (no_responses order config.axi_bytes request address told (rw reading.reads refl)) few reading.reads tells b

    by_last : (b : Bool) → r.last ≡ b → is_settled (with_read_told config.axi_bytes r b request).flight ≡ true
        → (not (with_read_told config.axi_bytes r b request).flight.writing && is_some (value_found (with_read_told config.axi_bytes r b request))) ≡ true
        → is_okay (read_response order.faults address) ≡ true
    by_last true is settles found =
        last_readable order config request piece count address r valid served at reading (eqb-true count piece.len (sym last ∙ is)) (told_more true) settles
        (and_parts (not request.flight.writing) (is_some (value_found (with_read_told config.axi_bytes r true request))) found).1
    by_last false is settles found =
        absurd (omega (arith, leb-true (length (planned request.flight)) request.flight.answered settles, slice_get_within (planned request.flight) request.flight.answered piece reading.burst))

-- ---- a response

-- one more response to a write
pub gathered-response : (order : Order) (config : Config) (request : BridgedRequest) (address : ℕ) (resp : Resp) → request.flight.writing ≡ true
    → resp ≡ write_response (standing_at order.faults address)
    → HasGathered order config.axi_bytes request address → HasGathered order config.axi_bytes (after_response resp request) address
gathered-response order config request address resp writes is told =
    settled_gathered order config.axi_bytes (with_response_told resp request) address none_found (response_told order config.axi_bytes request address resp writes is told)
  where
    none_found : is_settled (with_response_told resp request).flight ≡ true → (not request.flight.writing && is_some (value_found (with_response_told resp request))) ≡ true
        → is_okay (read_response order.faults address) ≡ true
    none_found settles test = grind (arith, settles, test)

-- ---- the answers as the memory gives them

no_range : (operation : Operation) → plan_for operation None ≡ None
no_range operation = grind arith

-- a request without an AXI address is done
nowhere_done : (order : Order) (config : Config) (limits : TableLimits) (accepted : ℕ) (request : BridgedRequest) → IsServed config order.regions request → IsSoundRequest limits accepted request.flight
    → address_of order.regions (request_of request.message) ≡ None → request.flight.done ≡ true
nowhere_done order config limits accepted request served sound at = grind (arith, served, sound, at)

-- a read beat that the memory captured
pub read_in_order : (order : Order) (config : Config) (limits : TableLimits) (accepted : ℕ) (request : BridgedRequest) (piece : Piece) (count : ℕ) (r : RBeat) → is_valid config ≡ true
    → IsServed config order.regions request → IsSoundRequest limits accepted request.flight → IsReading request piece count → r.last ≡ (count == piece.len)
    → request.gathering.came < reads_of config.axi_bytes (outline_in request) → TellsSerially order request.flight.number config.axi_bytes piece (count + 1) r.payload r.resp
    → IsGathered order config.axi_bytes request (address_of order.regions (request_of request.message))
    → IsGathered order config.axi_bytes (after_read config.axi_bytes r request) (address_of order.regions (request_of request.message))
read_in_order order config limits accepted request piece count r valid served sound reading last few tells told =
    by_place (address_of order.regions (request_of request.message)) refl told
  where
    by_place : (place : Option ℕ) → address_of order.regions (request_of request.message) ≡ place → IsGathered order config.axi_bytes request place
        → IsGathered order config.axi_bytes (after_read config.axi_bytes r request) place
    by_place None at so_far = absurd (cc (nowhere_done order config limits accepted request served sound at, reading.live))
    by_place (Some address) at so_far =
        gathered-read order config request piece count address r valid served at reading last few (place_of_read order config request address piece count r valid served at reading tells) so_far

-- a burst of a request's plan is on the page of its range
standing_of_piece : (order : Order) (config : Config) (limits : TableLimits) (accepted : ℕ) (request : BridgedRequest) (piece : Piece) (address : ℕ) → is_valid config ≡ true
    → IsServed config order.regions request → request.flight.plan ≡ Some (range_at config (request_of request.message) address)
    → slice_get (planned request.flight) request.flight.answered ≡ Some piece → standing_at order.faults piece.address ≡ standing_at order.faults address
standing_of_piece order config limits accepted request piece address valid served plan burst =
    let range = range_at config (request_of request.message) address in
    let plans = (plannable config order.regions request range valid served.pages served plan).0 in
    let even = divides_evenly range plans in
    let k = request.flight.answered in
    let there = piece_of_plan request.flight range k piece plan burst in
    let (below, is) = piece_listed range even k piece there in
    let within = piece_within range even k below in
    let some = even.parts.some in
    ap (λ (p : Piece). standing_at order.faults p.address) is
    ∙ standing_of order.faults (address + k * burst_bytes range) address
    (in_page config.axi_bytes address request.message.size (k * burst_bytes range) plans.bus plans.size plans.aligned (omega (arith, within, some)))

-- the response to a write that the memory gave
pub response_in_order : (order : Order) (config : Config) (limits : TableLimits) (accepted : ℕ) (request : BridgedRequest) (piece : Piece) (resp : Resp) → is_valid config ≡ true
    → IsServed config order.regions request → IsSoundRequest limits accepted request.flight → request.flight.done ≡ false
    → request.flight.writing ≡ true → slice_get (planned request.flight) request.flight.answered ≡ Some piece → resp ≡ write_response (standing_at order.faults piece.address)
    → IsGathered order config.axi_bytes request (address_of order.regions (request_of request.message))
    → IsGathered order config.axi_bytes (after_response resp request) (address_of order.regions (request_of request.message))
response_in_order order config limits accepted request piece resp valid served sound live writes burst is told =
    by_place (address_of order.regions (request_of request.message)) refl told
  where
    by_plan : (address : ℕ) → address_of order.regions (request_of request.message) ≡ Some address → (plan : Option PlannedRange) → request.flight.plan ≡ plan
        → request.flight.plan ≡ Some (range_at config (request_of request.message) address)
    by_plan address at plan none = grind (arith, at, none)

    by_place : (place : Option ℕ) → address_of order.regions (request_of request.message) ≡ place → IsGathered order config.axi_bytes request place
        → IsGathered order config.axi_bytes (after_response resp request) place
    by_place None at so_far = absurd (cc (nowhere_done order config limits accepted request served sound at, live))
    by_place (Some address) at so_far =
        let plan = by_plan address at request.flight.plan refl in
        gathered-response order config request address resp writes
        (is ∙ ap write_response (standing_of_piece order config limits accepted request piece address valid served plan burst)) so_far
