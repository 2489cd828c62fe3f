-- A live request stays served: a new one, one that sent a burst, and one whose burst was answered.
use Rattle.std.proofs.Common.{◌≡◌, ℕ, zero, suc, ◌+◌, ◌==◌, ◌<◌, ◌≤◌, min, Bool, true, false, ◌&&◌, ◌||◌, not, List, [], ◌∷◌, length, drop, take, Option, Some, None, is_none, is_some, IsSome, refl, sym, ◌∙◌, arith}
use Rattle.std.specs.Prelude.{if◌then◌else◌, slice_get}
use Rattle.std.specs.List.{AllByRecursion, find}
use Rattle.std.proofs.lemmas.Bool.{and_parts, eqb-true, leb-true, lt-leb}
use Rattle.std.proofs.lemmas.List.{take_all}
use Rattle.std.proofs.lemmas.Bool.Decides.{nat_tests}
use Rattle.bus_words.specs.Places.{change_first}
use Rattle.bus_words.proofs.FoundChanges.{part-empty, part-next}
use Rattle.tl_messages.specs.Operations.{has_data, reply_has_data}
use Rattle.tl_messages.specs.Requests.{HeldMessage, request_of}
use Rattle.tl_messages.specs.declared.Operation.{Operation}
use Rattle.tl_checker.specs.Sound.{IsSound}
use Rattle.axi_beats.specs.declared.RBeat.{RBeat}
use Rattle.axi_beats.specs.declared.Resp.{Resp}
use Rattle.burst_plan.specs.PageMap.{IsPageMap}
use Rattle.burst_plan.specs.Pieces.{PlannedRange, pieces}
use Rattle.burst_plan.specs.declared.Piece.{Piece}
use Rattle.burst_plan.specs.declared.Region.{Region}
use Rattle.flight_table.specs.Laws.{IsSoundRequest}
use Rattle.flight_table.specs.LiveRequests.{LiveRequest, finished, reads_then_writes, is_settled, plan_for, planned, read_pieces, with_answered, with_write}
use Rattle.flight_table.specs.declared.TableLimits.{TableLimits}
use Rattle.flight_table.proofs.PhaseLaws.{length_reading, length_writing}
use Rattle.responses.specs.Gathered.{Gathering, after_b, after_r, old_value, reads_of}
use Rattle.responses.specs.Gathered as gathered
use Rattle.config.specs.Configs.{is_valid, port_of}
use Rattle.bridge_core.specs.Laws.{IsOfMessage, IsPartWay, IsServed, answered_pieces, beats_in, came_of_next, outstanding}
use Rattle.bridge_core.specs.HeldRequests.{BridgedRequest, RequestTable, after_read, after_response, after_sending, newly_live, outline_in, range_of, settled, value_found}
use Rattle.config.specs.declared.Config.{Config}
use Rattle.bridge_core.proofs.AnswerLinks.{answered_next}
use Rattle.bridge_core.proofs.PlannedPieces.{HasPlan, atomic_plan, live_plan, plan_known, some_pieces}
use Rattle.bridge_core.proofs.ResponseLinks.{part_way-zero}

-- ---- where one entry of a list is changed

pub all-change_found : {X : Type 0} (P : X → Type 0) (p : X → Bool) (f : X → X) (xs : List X) (x : X) → find p xs ≡ Some x → P (f x) → AllByRecursion P xs → AllByRecursion P (change_first p f xs)
all-change_found P p f [] x found now all = tt
all-change_found P p f (y ∷ ys) x found now all = grind (arith, all-change_found P p f ys x)

-- ---- the bursts of a request

-- all reads came, once each of their bursts was answered
pub reads_came : (flight : LiveRequest) → flight.writing ≡ false → length (read_pieces flight) ≤ flight.answered → answered_pieces flight ≡ read_pieces flight
reads_came flight reads past = rw reads (take_all flight.answered (read_pieces flight) past)

-- the old value is that of an atomic
pub atomic_both : (operation : Operation) → gathered.is_atomic operation ≡ true → (reply_has_data operation && has_data operation) ≡ true
atomic_both operation is = grind arith

pub found_is_atomic : (config : Config) (regions : List Region) (request : BridgedRequest) (gathering : Gathering) → IsOfMessage config regions request
    → is_some (old_value (outline_in request) gathering) ≡ true → reads_then_writes request.flight ≡ true
found_is_atomic config regions request gathering of_message some = grind (arith, of_message, some)

-- ---- how far its next read is

part_way-none : (write : Bool) (came : ℕ) (pieces : List Piece) → pieces ≡ [] → IsPartWay write came pieces → came ≡ 0
part_way-none write came pieces none part = grind (arith, none, part)

part_way-writes : (write : Bool) (came : ℕ) (pieces : List Piece) → write ≡ true → IsPartWay write came pieces → came ≡ 0
part_way-writes write came pieces writes part = rw writes at part

part_way-reads : (write : Bool) (came : ℕ) (pieces rest : List Piece) (piece : Piece) → write ≡ false → pieces ≡ piece ∷ rest → came ≤ piece.len → IsPartWay write came pieces
part_way-reads write came pieces rest piece reads is part = rw (reads, is) part

-- ---- an answer was counted, and the request is settled

-- a request before it is settled: what is served of it already
pub record IsCounted (config : Config) (regions : List Region) (request : BridgedRequest) : Type 0 where
  pub pages : IsPageMap regions
  pub message : IsSound (port_of config request.message.client) request.message
  pub flight : IsOfMessage config regions request
  pub live : request.flight.done ≡ false
  pub found : reads_then_writes request.flight ≡ true → request.flight.writing ≡ true → is_settled request.flight ≡ false → IsSome (value_found request)
  pub came : beats_in (answered_pieces request.flight) ≤ request.gathering.came
  pub next : IsPartWay request.flight.writing (came_of_next request) (outstanding request.flight)
  pub answered : request.flight.answered ≤ length (planned request.flight)
  pub sent : request.flight.sent ≤ length (planned request.flight)
  pub has : HasPlan config request

module _ (config : Config) (regions : List Region) (request : BridgedRequest) (valid : is_valid config ≡ true) (counted : IsCounted config regions request) where
  going_on : is_settled request.flight ≡ false → IsServed config regions request
  going_on going = grind (arith, counted.found)

  to_write : is_settled request.flight ≡ true → (not request.flight.writing && is_some (value_found request)) ≡ true → IsServed config regions (record request { flight = with_write request.flight })
  to_write settles test =
      let parts = and_parts (not request.flight.writing) (is_some (value_found request)) test in
      let after : BridgedRequest = record request { flight = with_write request.flight } in
      let isnt : request.flight.writing ≡ false = grind (arith, parts.0) in
      let atomic : reads_then_writes request.flight ≡ true = found_is_atomic config regions request request.gathering counted.flight parts.1 in
      let plan = atomic_plan config regions request valid counted.message counted.flight counted.has atomic in
      let all = leb-true (length (planned request.flight)) request.flight.answered settles in
      let whole = reads_came request.flight isnt (omega (arith, all, length_reading request.flight isnt)) in
      let some : 0 < length (planned after.flight) = omega (arith, length_writing after.flight refl, plan.writes) in
      let empty = part-empty (planned request.flight) request.flight.answered request.flight.sent (omega (arith, counted.sent, all)) in
      let none = part_way-none request.flight.writing (came_of_next request) (outstanding request.flight) empty counted.next in
      let came : beats_in (answered_pieces after.flight) ≤ after.gathering.came = rw (← whole) counted.came in
      let next : came_of_next after ≡ 0 = rw (← whole) none in
      let done = lt-leb (length (planned after.flight)) 0 some in
      grind (arith, parts.1, done, counted.live)

  to_end : is_settled request.flight ≡ true → (not request.flight.writing && is_some (value_found request)) ≡ false → IsServed config regions (record request { flight = finished request.flight })
  to_end settles test = grind arith

  pub settled_served : IsServed config regions (settled request)
  settled_served = by_flags (is_settled request.flight) (not request.flight.writing && is_some (value_found request)) refl refl
    where
      by_flags : (at_end write : Bool) → is_settled request.flight ≡ at_end → (not request.flight.writing && is_some (value_found request)) ≡ write → IsServed config regions (settled request)
      by_flags false write going test = rw going (going_on going)
      by_flags true true settles test = rw (settles, test) (to_write settles test)
      by_flags true false settles test = rw (settles, test) (to_end settles test)

-- ---- a new request

-- what has a plan reads or writes
has_course : (operation : Operation) (plan : Option PlannedRange) (range : PlannedRange) → plan_for operation plan ≡ Some range → (reply_has_data operation || has_data operation) ≡ true
has_course operation plan range is = grind arith

some_planned : (replies carries : Bool) (parts : List Piece) → (replies || carries) ≡ true → 1 ≤ length parts
    → 0 < length (if not replies then (if carries then parts else []) else (if replies then parts else []))
some_planned replies carries parts either some = grind arith

none_planned : (replies carries : Bool) → length {A = Piece} (if not replies then (if carries then [] else []) else (if replies then [] else [])) ≡ 0
none_planned replies carries = grind arith

-- an atomic reads at first
pub atomic_first : (replies carries : Bool) → (replies && carries) ≡ true → not replies ≡ true → ⊥
atomic_first replies carries atomic writes = grind arith

pub served_new : (table : RequestTable) (message : HeldMessage) → is_valid table.config ≡ true → IsPageMap table.regions → IsSound (port_of table.config message.client) message
    → IsServed table.config table.regions (newly_live table message)
served_new table message valid pages sound =
    record {
      pages = pages;
      message = sound;
      flight = record { client = refl; source = refl; operation = refl; plan = refl };
      done = done_by plan refl;
      found = λ atomic is live. absurd (atomic_first (reply_has_data message.operation) (has_data message.operation) atomic is);
      failed = λ atomic isnt over. failed_by atomic over plan refl;
      came = grind arith;
      next = grind arith;
    }
  where
    fresh : LiveRequest
    fresh = (newly_live table message).flight

    plan : Option PlannedRange
    plan = plan_for message.operation (range_of table.config table.regions (request_of message))

    some : (range : PlannedRange) → plan ≡ Some range → 1 ≤ length (pieces range)
    some range is = some_pieces table.config message range (plan_known table.config table.regions message range valid pages sound is)

    done_by : (p : Option PlannedRange) → plan ≡ p → is_none p ≡ is_settled (record fresh { plan = p })
    done_by None is = rw (none_planned (reply_has_data message.operation) (has_data message.operation)) refl
    done_by (Some range) is =
        sym (lt-leb _ 0 (some_planned (reply_has_data message.operation) (has_data message.operation) (pieces range) (has_course message.operation (range_of table.config table.regions (request_of message)) range is) (some range is)))

    failed_by : reads_then_writes fresh ≡ true → is_none plan ≡ true → (p : Option PlannedRange) → plan ≡ p → value_found (newly_live table message) ≡ None
    failed_by atomic over p is = grind (arith, atomic, over, is)

-- ---- a burst was sent

-- a part of a list begins with the entry at its place
pub record BeginsWith {X : Type 0} (x : X) (xs : List X) : Type 0 where
  pub rest : List X
  pub is : xs ≡ x ∷ rest

part_begins : {X : Type 0} (xs : List X) (from to : ℕ) (x : X) → slice_get xs from ≡ Some x → from < to → BeginsWith x (drop from (take to xs))
part_begins [] from to x there within = absurd (cc (there))
part_begins (y ∷ ys) from zero x there within = absurd (omega (arith, within))
part_begins (y ∷ ys) zero (suc to) x there within = record { rest = take to ys; is = cc }
part_begins (y ∷ ys) (suc from) (suc to) x there within = part_begins ys from to x there (omega (arith, within))

part_way_more : (write : Bool) (pieces : List Piece) (from to came : ℕ) → IsPartWay write came (drop from (take to pieces)) → IsPartWay write came (drop from (take (to + 1) pieces))
part_way_more true pieces from to came part = part
part_way_more false pieces from to came part = by_part (drop from (take to pieces)) refl part
  where
    by_part : (parts : List Piece) → drop from (take to pieces) ≡ parts → IsPartWay false came parts → IsPartWay false came (drop from (take (to + 1) pieces))
    by_part [] is none = rw none (part_way-zero false (drop from (take (to + 1) pieces)))
    by_part (piece ∷ rest) is part =
        let next = part-next pieces from to piece rest is in
        rw (part_begins pieces from (to + 1) piece next.at (omega (arith, next.within))).is part

pub served_sent : (config : Config) (regions : List Region) (id : ℕ) (request : BridgedRequest) → IsServed config regions request → IsServed config regions (after_sending id request)
served_sent config regions id request served =
    let next = part_way_more request.flight.writing (planned request.flight) request.flight.answered request.flight.sent (came_of_next request) served.next in
    assumption

-- ---- a burst was answered by a B, or a beat of it came by an R

-- with an answer counted, before it is settled: a B, the last R of its burst, and another R
abbrev after_its_b : Resp → BridgedRequest → BridgedRequest
after_its_b resp request = record request { flight = with_answered request.flight; gathering = after_b resp request.gathering }

abbrev after_last_r : ℕ → RBeat → BridgedRequest → BridgedRequest
after_last_r bus_bytes r request =
    record request { flight = with_answered request.flight; gathering = after_r bus_bytes (outline_in request) r request.gathering.came request.gathering }

abbrev after_more_r : ℕ → RBeat → BridgedRequest → BridgedRequest
after_more_r bus_bytes r request = record request { gathering = after_r bus_bytes (outline_in request) r request.gathering.came request.gathering }

-- the read that an R belongs to, and how many of its beats came before
pub record IsReading (request : BridgedRequest) (piece : Piece) (count : ℕ) : Type 0 where
  pub within : request.flight.answered < request.flight.sent
  pub live : request.flight.done ≡ false
  pub reads : request.flight.writing ≡ false
  pub burst : slice_get (planned request.flight) request.flight.answered ≡ Some piece
  pub came : request.gathering.came ≡ beats_in (answered_pieces request.flight) + count
  pub few : count ≤ piece.len

module _ {config : Config} {regions : List Region} {limits : TableLimits} {accepted : ℕ} {request : BridgedRequest} (valid : is_valid config ≡ true) (served : IsServed config regions request)
    (sound : IsSoundRequest limits accepted request.flight) where
  planned_for : request.flight.done ≡ false → HasPlan config request
  planned_for live = live_plan config regions request valid served.pages served.message served.flight sound.no_plan live

  response_counted : (resp : Resp) → request.flight.writing ≡ true → request.flight.answered < request.flight.sent → request.flight.done ≡ false → IsCounted config regions (after_its_b resp request)
  response_counted resp writes within live =
      let flight = request.flight in
      let after = after_its_b resp request in
      let has = planned_for live in
      let same : answered_pieces (with_answered flight) ≡ answered_pieces flight = rw writes refl in
      let none : came_of_next request ≡ 0 = part_way-writes flight.writing (came_of_next request) (outstanding flight) writes served.next in
      let still : came_of_next after ≡ 0 = rw same none in
      let next : IsPartWay flight.writing (came_of_next after) (outstanding after.flight) = rw still (part_way-zero flight.writing (outstanding after.flight)) in
      let came : beats_in (answered_pieces after.flight) ≤ after.gathering.came = rw same served.came in
      grind (arith, nat_tests, atomic_plan config regions request valid served.message served.flight has, length_writing flight writes, sound.sent, has)

  pub served_response : (resp : Resp) → request.flight.writing ≡ true → request.flight.answered < request.flight.sent → request.flight.done ≡ false → IsServed config regions (after_response resp request)
  served_response resp writes within live = settled_served config regions (after_its_b resp request) valid (response_counted resp writes within live)

  last_counted : (r : RBeat) (piece : Piece) (count : ℕ) → IsReading request piece count → count ≡ piece.len → request.gathering.came < reads_of config.axi_bytes (outline_in request)
      → IsCounted config regions (after_last_r config.axi_bytes r request)
  last_counted r piece count reading last place =
      let flight = request.flight in
      let answered = after_last_r config.axi_bytes r request in
      let has = planned_for reading.live in
      let more = answered_next flight piece reading.reads (rw reading.reads at reading.burst) in
      let all : min (request.gathering.came + 1) (reads_of config.axi_bytes (outline_in request)) ≡ beats_in (answered_pieces (with_answered flight)) = omega (arith, place, more, reading.came, last) in
      let none : came_of_next answered ≡ 0 = omega (arith, all) in
      let next : IsPartWay flight.writing (came_of_next answered) (outstanding answered.flight) = rw none (part_way-zero flight.writing (outstanding answered.flight)) in
      grind (arith, reading.reads, reading.within, sound.sent, has)

  more_counted : (r : RBeat) (piece : Piece) (count : ℕ) → IsReading request piece count → count < piece.len → request.gathering.came < reads_of config.axi_bytes (outline_in request)
      → IsCounted config regions (after_more_r config.axi_bytes r request)
  more_counted r piece count reading more place =
      let flight = request.flight in
      let answered = after_more_r config.axi_bytes r request in
      let has = planned_for reading.live in
      let counted : min (request.gathering.came + 1) (reads_of config.axi_bytes (outline_in request)) ≡ beats_in (answered_pieces flight) + (count + 1) = omega (arith, place, reading.came) in
      let below : came_of_next answered ≤ piece.len = omega (arith, counted, more) in
      let begins = part_begins (planned flight) flight.answered flight.sent piece reading.burst reading.within in
      let next = part_way-reads flight.writing (came_of_next answered) (outstanding flight) begins.rest piece reading.reads begins.is below in
      grind (arith, reading.reads, reading.within, sound.sent, has)

  pub served_read : (r : RBeat) (piece : Piece) (count : ℕ) → IsReading request piece count → r.last ≡ (count == piece.len) → request.gathering.came < reads_of config.axi_bytes (outline_in request)
      → IsServed config regions (after_read config.axi_bytes r request)
  served_read r piece count reading last place = by_last r.last refl
    where
      by_last : (b : Bool) → r.last ≡ b → IsServed config regions (after_read config.axi_bytes r request)
      by_last true is =
          rw is (settled_served config regions (after_last_r config.axi_bytes r request) valid (last_counted r piece count reading (eqb-true count piece.len (sym last ∙ is)) place))
      by_last false is =
          let below : count < piece.len = grind (arith, nat_tests, reading.few, last, is) in
          rw is (settled_served config regions (after_more_r config.axi_bytes r request) valid (more_counted r piece count reading below place))
