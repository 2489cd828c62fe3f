-- What single bursts of a live request are to single bytes: their writes put what the request leaves, each byte by one transfer, their reads have
-- told nothing yet, and once all its pieces are written it has written all. It knows the plan of one request, its bursts as they are sent and
-- while they are open; what becomes of them, and all other requests, are hidden.
use Rattle.std.specs.List.{range_with_len, slice_get, filter, find}
use Rattle.std.proofs.Common.{◌≡◌, ℕ, zero, suc, ◌+◌, ◌^◌, ◌<◌, ◌≤◌, nat_lt, Bool, true, false, ◌&&◌, not, List, map, replicate, Option, Some, is_some, refl, ap, sym, ◌∙◌, subst, arith, length, None, ◌||◌, [], ◌∷◌, drop, take, unwrap_or, option_map, if◌then◌else◌}
use Rattle.std.proofs.lemmas.Bool.{and_from, and_parts, le-leb, lt-ltb, leb-true}
use Rattle.std.proofs.lemmas.List.FromFn.{length-map-range_with_len, get_or-map-range_with_len}
use Rattle.std.proofs.lemmas.Option.{get_or_from_slice_get, slice_get_within}
use Rattle.bus_words.specs.Lanes.{given_at}
use Rattle.bus_words.proofs.MappedPlaces.{map_some}
use Rattle.tl_messages.specs.Operations.{has_data, reply_has_data}
use Rattle.tl_messages.specs.Requests.{WholeRequest, request_of}
use Rattle.tl_messages.specs.declared.AtomicOp.{AtomicOp}
use Rattle.tl_messages.specs.declared.Operation.{Operation}
use Rattle.tl_messages.specs.declared.Operation.TheVariants.{Atomic}
use Rattle.axi_beats.specs.Transfers.{transfer_has}
use Rattle.axi_beats.specs.declared.Resp.{Resp}
use Rattle.axi_beats.specs.declared.WBeat.{WBeat}
use Rattle.data_unit.specs.Words.{value}
use Rattle.burst_plan.specs.PageMap.{IsPageMap, address_of}
use Rattle.burst_plan.specs.Pieces.{IsPlannable, PlannedRange, pieces}
use Rattle.burst_plan.specs.PlannedBursts.{PutsBytes, read_of, w_beat, write_of}
use Rattle.burst_plan.specs.PlannedTransfers.{HasAddress, HoldsEachByteOnce}
use Rattle.burst_plan.specs.declared.Piece.{Piece}
use Rattle.burst_plan.specs.declared.Region.{Region}
use Rattle.burst_plan.proofs.TransferPlaces.{holds_each_byte_once}
use Rattle.burst_plan.proofs.WriteLaws.{puts_given_bytes}
use Rattle.flight_table.specs.LiveRequests.{LiveRequest, reads_then_writes, next_piece, plan_for, planned, write_pieces}
use Rattle.config.specs.Configs.{is_valid}
use Rattle.bridge_core.specs.Laws.{IsServed, outstanding}
use Rattle.bridge_core.specs.HeldRequests.{BridgedRequest, range_at, range_of, value_found, RequestTable, holder, holds, is_numbered}
use Rattle.bridge_core.specs.Sending.{burst_of_piece, bytes_to_write}
use Rattle.config.specs.declared.Config.{Config}
use Rattle.bridge_core.proofs.ReadCounts.{planned_range}
use Rattle.bridge_core.proofs.SentBursts.{IsListed, piece_of_plan, plannable, written_are_bytes}
use Rattle.bridge_core.proofs.ServedRequests.{atomic_both}
use Rattle.bridge_core.proofs.AnswerLinks.{IsHolder, holder_known}
use Rattle.bridge_core.proofs.SentLinks.{found_by_number}
use Rattle.subordinate.specs.Faults.{is_bad, is_good, standing_at, Faults}
use Rattle.subordinate.specs.FreeMemory.{is_waiting, newly_pending, Pending}
use Rattle.subordinate.specs.declared.BeatState.{BeatState}
use Rattle.subordinate.specs.declared.BeatState.TheVariants.{Captured, Waiting}
use Rattle.world.specs.Laws.{IsSoundWorld}
use Rattle.world.specs.World.{WorldState}
use Rattle.world_run.specs.InOrder.{IsBurstOf, IsReadOf, IsWriteOf, PutsSerially, IsInItsTurn, AreBurstsOf, AreOfHolder, is_finished, has_begun, is_of_id, is_over, started}
use Rattle.meaning.specs.Meaning.{bytes_at}
use Rattle.world_run.specs.Serial.{Order, asked, byte_left, bytes_before, gives_byte, is_intent, touches, writes}
use Rattle.world_run.proofs.BytesLeft.{FindsSerially, byte_left_is, gives_what_is_left, gives_where_written, gives_within, same_standing, writes_is}

-- ---- the range of a live request

pub record IsPlannedAt (config : Config) (regions : List Region) (request : BridgedRequest) (range : PlannedRange) : Type 0 where
  pub plannable : IsPlannable range
  pub bus : range.bus_bytes ≡ config.axi_bytes
  pub size : range.size ≡ request.message.size
  pub address : address_of regions (request_of request.message) ≡ Some range.address

pub planned_at : (config : Config) (regions : List Region) (request : BridgedRequest) (range : PlannedRange) → is_valid config ≡ true → IsPageMap regions → IsServed config regions request
    → request.flight.plan ≡ Some range → IsPlannedAt config regions request range
planned_at config regions request range valid pages served plan =
    let q = request_of request.message in
    let cut = plannable config regions request range valid pages served plan in
    let of_message = planned_range request.message.operation (range_of config regions q) range (sym served.flight.plan ∙ plan) in
    map_some (range_at config q) (address_of regions q) range of_message
    (λ address found same. record {
      plannable = cut.0;
      bus = cut.1;
      size = ap (λ (r : PlannedRange). r.size) (sym same);
      address = found ∙ ap (λ (r : PlannedRange). Some r.address) same;
    })

-- what it writes lies in its range, on a good page
pub record WritesInRange (order : Order) (range : PlannedRange) (x : ℕ) : Type 0 where
  pub inside : HasAddress range x
  pub page : is_good (standing_at order.faults range.address) ≡ true
  pub good : is_good (standing_at order.faults x) ≡ true

pub writes_in_range : (order : Order) (config : Config) (request : BridgedRequest) (range : PlannedRange) (x : ℕ) → IsPlannedAt config order.regions request range
    → asked order request.flight.number ≡ Some (request_of request.message) → writes order request.flight.number x ≡ true → WritesInRange order range x
writes_in_range order config request range x at is_asked written =
    let q = request_of request.message in
    let both = and_parts (is_good (standing_at order.faults range.address)) (gives_byte order.faults q range.address q.operation x) (sym (writes_is order request.flight.number q range.address x is_asked at.address) ∙ written) in
    let within = gives_within order.faults request.message q.operation range.address x both.1 in
    let bytes : 2 ^ range.size ≡ 2 ^ request.message.size = ap (λ n. 2 ^ n) at.size in
    let first = within.0 in
    let last = within.1 in
    let inside : HasAddress range x = record { first = first; last = omega arith } in
    record { inside = inside; page = both.0; good = ap is_good (same_standing order.faults range x at.plannable inside) ∙ both.0 }

-- ---- the pieces of its plan

-- the bytes of its transfers are those of the range
pub transfer_inside : (config : Config) (regions : List Region) (request : BridgedRequest) (range : PlannedRange) (piece : Piece) (n x : ℕ) → IsPlannedAt config regions request range → IsListed (pieces range) piece
    → 1 ≤ n → n ≤ piece.len + 1 → transfer_has piece.address piece.size n x ≡ true → HasAddress range x
transfer_inside config regions request range piece n x at (k, listed) one last has = ((holds_each_byte_once range at.plannable).back k n x piece listed one last has).0

not_intent : (operation : Operation) (plan : Option PlannedRange) (range : PlannedRange) → plan_for operation plan ≡ Some range → not (is_intent operation) ≡ true
not_intent operation plan range is = grind (arith, is)

-- and these are the bytes that the request touches
pub range_touched : (order : Order) (config : Config) (request : BridgedRequest) (range : PlannedRange) (x : ℕ) → IsServed config order.regions request → IsPlannedAt config order.regions request range
    → asked order request.flight.number ≡ Some (request_of request.message) → request.flight.plan ≡ Some range → HasAddress range x → touches order request.flight.number x ≡ true
range_touched order config request range x served at is_asked plan inside = grind (arith, and_from, not_intent, le-leb, lt-ltb, served, at, is_asked, plan, inside)

-- ---- its writes

pub atomic_is : (config : Config) (regions : List Region) (request : BridgedRequest) (op : AtomicOp) → IsServed config regions request → request.message.operation ≡ Atomic op → reads_then_writes request.flight ≡ true
atomic_is config regions request op served is = ap (λ (o : Operation). reply_has_data o && has_data o) (served.flight.operation ∙ is) ∙ atomic_both (Atomic op) refl

-- the W beats of a burst are those of its transfers, from 1
w_beat_is : (bus_bytes : ℕ) (given : ℕ → Option ℕ) (piece : Piece) (n : ℕ) (w : WBeat) → slice_get (map (w_beat bus_bytes given piece) (range_with_len 1 (piece.len + 1))) n ≡ Some w
    → (n + 1 ≤ piece.len + 1) × (w ≡ w_beat bus_bytes given piece (n + 1))
w_beat_is bus_bytes given piece n w there =
    let beats = map (w_beat bus_bytes given piece) (range_with_len 1 (piece.len + 1)) in
    let within : n < piece.len + 1 = rw (length-map-range_with_len (w_beat bus_bytes given piece) 1 (piece.len + 1)) at (slice_get_within beats n w there) in
    (omega arith, sym (get_or_from_slice_get beats n w w there) ∙ get_or-map-range_with_len (w_beat bus_bytes given piece) 1 (piece.len + 1) n (n + 1) w within (omega arith))

-- W beat n of a request's write: it is transfer n + 1, in the range, and puts the bytes that the request's bursts write
record IsTransferOf (request : BridgedRequest) (range : PlannedRange) (piece : Piece) (n : ℕ) (w : WBeat) : Type 0 where
  pub inside : (x : ℕ) → transfer_has piece.address piece.size (n + 1) x ≡ true → HasAddress range x
  pub puts : PutsBytes range.bus_bytes (given_at (bytes_to_write request) range.address) piece (n + 1) w

transfer_is : (config : Config) (regions : List Region) (request : BridgedRequest) (range : PlannedRange) (piece : Piece) (n : ℕ) (w : WBeat) → IsPlannedAt config regions request range → IsListed (pieces range) piece
    → slice_get (map (w_beat range.bus_bytes (given_at (bytes_to_write request) range.address) piece) (range_with_len 1 (piece.len + 1))) n ≡ Some w → IsTransferOf request range piece n w
transfer_is config regions request range piece n w at listed there =
    let given = given_at (bytes_to_write request) range.address in
    let beat = w_beat_is range.bus_bytes given piece n w there in
    let all = puts_given_bytes range (bytes_to_write request) at.plannable (written_are_bytes request.message request.message.operation (unwrap_or (value_found request) 0)) in
    record {
      inside = λ x has. transfer_inside config regions request range piece (n + 1) x at listed (omega arith) beat.0 has;
      puts = subst (PutsBytes range.bus_bytes given piece (n + 1)) (sym beat.1) (all.puts listed.0 (n + 1) piece listed.1 (omega arith) beat.0);
    }

-- an atomic that writes found the number that it finds one at a time, and its word isn't bad
atomic_found : (order : Order) (config : Config) (request : BridgedRequest) (range : PlannedRange) → IsServed config order.regions request → request.flight.done ≡ false
    → request.flight.writing ≡ true → (reads_then_writes request.flight ≡ true → FindsSerially order request range.address) → (op : AtomicOp) → request.message.operation ≡ Atomic op
    → (is_bad order.faults range.address ≡ false) × (unwrap_or (value_found request) 0 ≡ value (bytes_at (bytes_before order request.flight.number) range.address (2 ^ request.message.size)))
atomic_found order config request range served live writes finds op is = grind (arith, served, live, writes, finds, is)

-- the writes of a request put what it leaves; of an atomic, where its read found what it finds one at a time
pub puts_serially : (order : Order) (config : Config) (request : BridgedRequest) (range : PlannedRange) (piece : Piece) (n : ℕ) (w : WBeat) → is_valid config ≡ true → IsPageMap order.regions
    → IsServed config order.regions request → asked order request.flight.number ≡ Some (request_of request.message) → request.flight.done ≡ false → request.flight.plan ≡ Some range
    → request.flight.writing ≡ true → next_piece request.flight ≡ Some piece → (reads_then_writes request.flight ≡ true → FindsSerially order request range.address)
    → slice_get (map (w_beat range.bus_bytes (given_at (bytes_to_write request) range.address) piece) (range_with_len 1 (piece.len + 1))) n ≡ Some w
    → PutsSerially order request.flight.number range.bus_bytes piece (n + 1) w
puts_serially order config request range piece n w valid pages served is_asked live plan writing next finds there =
    let is = transfer_is config order.regions request range piece n w at (request.flight.sent, piece_of_plan request.flight range request.flight.sent piece plan next) there in
    record {
      strobes = λ x has good. is.puts.strobes x has ∙ where_written x ∙ sym (written_there x (is.inside x has) good);
      bytes = λ x has written.
          let written_to = writes_in_range order config request range x at is_asked written in
          is.puts.payload x (byte_left order request.flight.number x) has (what_is_left x written_to.page (where_written x ∙ sym (written_there x written_to.inside written_to.good) ∙ written));
    }
  where
    q : WholeRequest
    q = request_of request.message

    at : IsPlannedAt config order.regions request range
    at = planned_at config order.regions request range valid pages served plan

    where_written : (x : ℕ) → is_some (given_at (bytes_to_write request) range.address x) ≡ gives_byte order.faults q range.address q.operation x
    where_written x = grind (arith, gives_where_written, atomic_found)

    written_there : (x : ℕ) → HasAddress range x → is_good (standing_at order.faults x) ≡ true → writes order request.flight.number x ≡ gives_byte order.faults q range.address q.operation x
    written_there x inside good =
        writes_is order request.flight.number q range.address x is_asked at.address
        ∙ ap (λ b. b && gives_byte order.faults q range.address q.operation x) (ap is_good (sym (same_standing order.faults range x at.plannable inside)) ∙ good)

    what_is_left : (x : ℕ) → is_good (standing_at order.faults range.address) ≡ true → is_some (given_at (bytes_to_write request) range.address x) ≡ true
        → given_at (bytes_to_write request) range.address x ≡ Some (byte_left order request.flight.number x)
    what_is_left x page given =
        gives_what_is_left order.faults q (bytes_before order request.flight.number) request.message.operation (standing_at order.faults range.address) (is_bad order.faults range.address) range.address x
        (unwrap_or (value_found request) 0) page (atomic_found order config request range served live writing finds) given
        ∙ ap (λ (byte : ℕ). Some byte) (sym (byte_left_is order request.flight.number q range.address x is_asked at.address))

-- ---- as open bursts

waits : (count n : ℕ) (beat : BeatState) → slice_get (replicate count Waiting) n ≡ Some beat → beat ≡ Waiting
waits zero n beat there = absurd (cc (there))
waits (suc count) zero beat there = let same : Waiting ≡ beat = cc in sym same
waits (suc count) (suc n) beat there = waits count n beat there

still_waiting : (count n : ℕ) (beat : BeatState) → slice_get (replicate count Waiting) n ≡ Some beat → is_waiting beat ≡ true
still_waiting count n beat there = ap is_waiting (waits count n beat there)

no_capture : (count n payload : ℕ) (resp : Resp) → slice_get (replicate count Waiting) n ≡ Some (Captured payload resp) → ⊥
no_capture count n payload resp there = absurd (cc (still_waiting count n (Captured payload resp) there))

-- a write just sent
pub burst_of_write : (order : Order) (config : Config) (wrote : ℕ → ℕ → Bool) (serial id : ℕ) (request : BridgedRequest) (range : PlannedRange) (piece : Piece) → is_valid config ≡ true → IsPageMap order.regions
    → IsServed config order.regions request → asked order request.flight.number ≡ Some (request_of request.message) → request.flight.done ≡ false → request.flight.plan ≡ Some range
    → request.flight.writing ≡ true → next_piece request.flight ≡ Some piece → (reads_then_writes request.flight ≡ true → FindsSerially order request range.address)
    → ((n x : ℕ) → n ≤ piece.len → transfer_has piece.address piece.size (n + 1) x ≡ true → wrote request.flight.number x ≡ false)
    → IsWriteOf order range.bus_bytes wrote request.flight.number (newly_pending serial (write_of range.bus_bytes id (bytes_to_write request) range.address piece)) piece
burst_of_write order config wrote serial id request range piece valid pages served is_asked live plan writing next finds none =
    record {
      aw = record { id = id; address = piece.address; len = piece.len; size = piece.size; burst = 1 };
      w_beats = map (w_beat range.bus_bytes (given_at (bytes_to_write request) range.address) piece) (range_with_len 1 (piece.len + 1));
      burst = refl;
      address = refl;
      size = refl;
      len = refl;
      puts = λ n w there. puts_serially order config request range piece n w valid pages served is_asked live plan writing next finds there;
      written = λ n x beat there performed has written. absurd (cc (performed, still_waiting (piece.len + 1) n beat there));
      unwritten = λ n x waits within has. none n x within has;
    }

-- a read just sent
pub burst_of_read : (order : Order) (bus_bytes number serial id : ℕ) (piece : Piece) → IsReadOf order bus_bytes number (newly_pending serial (read_of id piece)) piece
burst_of_read order bus_bytes number serial id piece =
    record {
      ar = record { id = id; address = piece.address; len = piece.len; size = piece.size; burst = 1 };
      burst = refl;
      address = refl;
      size = refl;
      len = refl;
      tells = λ n payload resp there. absurd (no_capture (piece.len + 1) n payload resp there);
    }

-- the next burst of a live request, just sent
pub burst_of_next : (order : Order) (config : Config) (wrote : ℕ → ℕ → Bool) (serial id : ℕ) (request : BridgedRequest) (range : PlannedRange) (piece : Piece) → is_valid config ≡ true → IsPageMap order.regions
    → IsServed config order.regions request → asked order request.flight.number ≡ Some (request_of request.message) → request.flight.done ≡ false → request.flight.plan ≡ Some range
    → next_piece request.flight ≡ Some piece → (reads_then_writes request.flight ≡ true → request.flight.writing ≡ true → FindsSerially order request range.address)
    → (request.flight.writing ≡ true → (n x : ℕ) → n ≤ piece.len → transfer_has piece.address piece.size (n + 1) x ≡ true → wrote request.flight.number x ≡ false)
    → IsBurstOf order config.axi_bytes wrote request.flight.number request.flight.writing (newly_pending serial (burst_of_piece id request range piece)) piece
burst_of_next order config wrote serial id request range piece valid pages served is_asked live plan next finds none = by_side request.flight.writing refl
  where
    by_side : (write : Bool) → request.flight.writing ≡ write
        → IsBurstOf order config.axi_bytes wrote request.flight.number write
        (newly_pending serial (if write then write_of range.bus_bytes id (bytes_to_write request) range.address piece else read_of id piece)) piece
    by_side true writing =
        subst (λ bus_bytes. IsWriteOf order bus_bytes wrote request.flight.number (newly_pending serial (write_of range.bus_bytes id (bytes_to_write request) range.address piece)) piece)
        (planned_at config order.regions request range valid pages served plan).bus
        (burst_of_write order config wrote serial id request range piece valid pages served is_asked live plan writing next (λ atomic. finds atomic writing) (none writing))
    by_side false reads = burst_of_read order config.axi_bytes request.flight.number serial id piece

-- ---- requests that write nothing

without_data : (faults : Faults) (q : WholeRequest) (address x : ℕ) (operation : Operation) → has_data operation ≡ false → gives_byte faults q address operation x ≡ false
without_data faults q address x operation none = grind (arith, none)

-- a Get or an Intent writes nothing
pub no_data_written : (order : Order) (number : ℕ) (q : WholeRequest) (x : ℕ) → asked order number ≡ Some q → has_data q.operation ≡ false → writes order number x ≡ false
no_data_written order number q x is_asked none = grind (arith, is_asked, none)

none_mapped : {A B : Type 0} (f : A → B) (o : Option A) → option_map f o ≡ None → o ≡ None
none_mapped f o none = grind (arith, none)

-- a request without a plan writes nothing: it has no AXI address, or is an Intent
pub nothing_written : (order : Order) (config : Config) (request : BridgedRequest) (x : ℕ) → IsServed config order.regions request → asked order request.flight.number ≡ Some (request_of request.message)
    → request.flight.plan ≡ None → writes order request.flight.number x ≡ false
nothing_written order config request x served is_asked none = grind (arith, served, is_asked, none)

-- ---- where all pieces are written

pub all_pieces_written : (order : Order) (number : ℕ) (range : PlannedRange) (wrote : ℕ → ℕ → Bool) → HoldsEachByteOnce range
    → ((k n x : ℕ) (piece : Piece) → slice_get (pieces range) k ≡ Some piece → 1 ≤ n → n ≤ piece.len + 1 → transfer_has piece.address piece.size n x ≡ true → writes order number x ≡ true → wrote number x ≡ true)
    → ((x : ℕ) → writes order number x ≡ true → HasAddress range x) → (x : ℕ) → writes order number x ≡ true → wrote number x ≡ true
all_pieces_written order number range wrote once each inside x written = grind (arith, once, each, inside, written)

-- an atomic writes only where its word isn't bad
atomic_fine : (faults : Faults) (q : WholeRequest) (address x : ℕ) (operation : Operation) → (reply_has_data operation && has_data operation) ≡ true → gives_byte faults q address operation x ≡ true → is_bad faults address ≡ false
atomic_fine faults q address x operation atomic gives = grind (arith, atomic, gives)

-- an atomic that is done and only read found no old value, so it writes nothing
failed_atomic : (order : Order) (config : Config) (request : BridgedRequest) (range : PlannedRange) (x : ℕ) → IsPlannedAt config order.regions request range → IsServed config order.regions request
    → asked order request.flight.number ≡ Some (request_of request.message) → reads_then_writes request.flight ≡ true → request.flight.writing ≡ false → request.flight.done ≡ true
    → FindsSerially order request range.address → writes order request.flight.number x ≡ true → ⊥
failed_atomic order config request range x at served is_asked atomic isnt over finds written =
    let q = request_of request.message in
    let place = writes_is order request.flight.number q range.address x is_asked at.address in
    let both = and_parts (is_good (standing_at order.faults range.address)) (gives_byte order.faults q range.address q.operation x) (sym place ∙ written) in
    let is_number = ap (λ (o : Operation). reply_has_data o && has_data o) (sym served.flight.operation) ∙ atomic in
    let found = finds.found both.0 (atomic_fine order.faults q range.address x q.operation is_number both.1) in
    absurd (cc (found, served.failed atomic isnt over))

-- a live request that is done has written all that it writes: its planned writes are all answered
pub all_written_done : (order : Order) (config : Config) (bus_bytes : ℕ) (wrote : ℕ → ℕ → Bool) (request : BridgedRequest) → is_valid config ≡ true → IsPageMap order.regions
    → IsServed config order.regions request → IsInItsTurn order bus_bytes wrote request → request.flight.done ≡ true
    → (request.flight.writing ≡ false → reply_has_data request.flight.operation ≡ true)
    → ((range : PlannedRange) → request.flight.plan ≡ Some range → reads_then_writes request.flight ≡ true → request.flight.writing ≡ false → FindsSerially order request range.address)
    → (x : ℕ) → writes order request.flight.number x ≡ true → wrote request.flight.number x ≡ true
all_written_done order config bus_bytes wrote request valid pages served of is_done reads finds x written = by_plan request.flight.plan refl
  where
    settled : length (planned request.flight) ≤ request.flight.answered
    settled = leb-true (length (planned request.flight)) request.flight.answered (sym served.done ∙ is_done)

    whole : (range : PlannedRange) → IsPlannedAt config order.regions request range → request.flight.writing ≡ true → write_pieces request.flight ≡ pieces range → wrote request.flight.number x ≡ true
    whole range at writing all =
        all_pieces_written order request.flight.number range wrote (holds_each_byte_once range at.plannable)
        (λ k n y piece listed first last has there.
        let burst : slice_get (planned request.flight) k ≡ Some piece = rw writing (ap (λ (parts : List Piece). slice_get parts k) all ∙ listed) in
        of.written writing k n y piece (omega (arith, slice_get_within (planned request.flight) k piece burst, settled)) burst first last has there)
        (λ y there. (writes_in_range order config request range y at of.asked there).inside) x written

    by_writes : (range : PlannedRange) → request.flight.plan ≡ Some range → IsPlannedAt config order.regions request range → (carried writing : Bool) → has_data request.flight.operation ≡ carried
        → request.flight.writing ≡ writing → wrote request.flight.number x ≡ true
    by_writes range plan at true true carries writing = whole range at writing (rw (carries, plan) refl)
    by_writes range plan at true false carries isnt =
        let atomic : reads_then_writes request.flight ≡ true = rw (reads isnt, carries) refl in
        absurd (failed_atomic order config request range x at served of.asked atomic isnt is_done (finds range plan atomic isnt) written)
    by_writes range plan at false writing none is =
        absurd (cc (written, no_data_written order request.flight.number (request_of request.message) x of.asked (ap has_data (sym served.flight.operation) ∙ none)))

    by_plan : (plan : Option PlannedRange) → request.flight.plan ≡ plan → wrote request.flight.number x ≡ true
    by_plan None none = absurd (cc (written, nothing_written order config request x served of.asked none))
    by_plan (Some range) plan =
        by_writes range plan (planned_at config order.regions request range valid pages served plan) (has_data request.flight.operation) request.flight.writing refl refl

-- ---- each byte is held by one of them

pub same_transfer : (flight : LiveRequest) (range : PlannedRange) (k j n m x : ℕ) (piece other : Piece) → IsPlannable range → flight.plan ≡ Some range → slice_get (planned flight) k ≡ Some piece
    → slice_get (planned flight) j ≡ Some other → 1 ≤ n → n ≤ piece.len + 1 → 1 ≤ m → m ≤ other.len + 1 → transfer_has piece.address piece.size n x ≡ true
    → transfer_has other.address other.size m x ≡ true → (k ≡ j) × (n ≡ m)
same_transfer flight range k j n m x piece other plannable plan there here first last first' last' has has' =
    let once = holds_each_byte_once range plannable in
    let one = once.back k n x piece (piece_of_plan flight range k piece plan there) first last has in
    let two = once.back j m x other (piece_of_plan flight range j other plan here) first' last' has' in
    (omega (arith, one.1, two.1), sym one.2 ∙ two.2)

-- ---- the holder of an ID with open bursts

-- a live request holds the ID, and the open bursts of the ID are its outstanding ones
pub record HasOpen (order : Order) (state : WorldState) (wrote : ℕ → ℕ → Bool) (id : ℕ) : Type 0 where
  pub request : BridgedRequest
  pub known : IsHolder state.bridge.requests id request
  pub are : AreBurstsOf order state.memory.bus_bytes wrote request.flight.number request.flight.writing (filter (is_of_id id) state.memory.pending) (outstanding request.flight)

pub has_open : (order : Order) (state : WorldState) (wrote : ℕ → ℕ → Bool) (id : ℕ) (test : Pending → Bool) (pending : Pending) → IsSoundWorld state
    → AreOfHolder order state.memory.bus_bytes wrote (filter (is_of_id id) state.memory.pending) (holder id state.bridge.requests.live)
    → find test (filter (is_of_id id) state.memory.pending) ≡ Some pending → HasOpen order state wrote id
has_open order state wrote id test pending sound are found = by_holder (holder id state.bridge.requests.live) refl are
  where
    by_holder : (held : Option BridgedRequest) → holder id state.bridge.requests.live ≡ held → AreOfHolder order state.memory.bus_bytes wrote (filter (is_of_id id) state.memory.pending) held
        → HasOpen order state wrote id
    by_holder None is nothing =
        let none : find test (filter (is_of_id id) state.memory.pending) ≡ None = ap (find test) nothing in
        absurd (cc (none, found))
    by_holder (Some request) is these = record { request = request; known = holder_known state.bridge.requests id request sound.bridge_laws.requests is; are = these }

-- ---- a part of a list

taken_at : {X : Type 0} (xs : List X) (to k : ℕ) (x : X) → slice_get (take to xs) k ≡ Some x → (slice_get xs k ≡ Some x) × (k < to)
taken_at [] zero k x there = absurd (cc (there))
taken_at [] (suc to) k x there = absurd (cc (there))
taken_at (y ∷ ys) zero k x there = absurd (cc (there))
taken_at (y ∷ ys) (suc to) zero x there = (there, omega arith)
taken_at (y ∷ ys) (suc to) (suc k) x there =
    let rest = taken_at ys to k x there in
    (rest.0, omega (arith, rest.1))

dropped_at : {X : Type 0} (xs : List X) (from k : ℕ) (x : X) → slice_get (drop from xs) k ≡ Some x → slice_get xs (k + from) ≡ Some x
dropped_at [] zero k x there = absurd (cc (there))
dropped_at [] (suc from) k x there = absurd (cc (there))
dropped_at (y ∷ ys) zero k x there = let same : k + 0 ≡ k = omega arith in rw same there
dropped_at (y ∷ ys) (suc from) k x there = let next : k + suc from ≡ suc (k + from) = omega arith in rw next (dropped_at ys from k x there)

pub part_at : {X : Type 0} (xs : List X) (from to k : ℕ) (x : X) → slice_get (drop from (take to xs)) k ≡ Some x → (slice_get xs (k + from) ≡ Some x) × (k + from < to)
part_at xs from to k x there = taken_at xs to (k + from) x (dropped_at (take to xs) from k x there)

-- ---- a request with an outstanding burst

pub record IsGoingOn (order : Order) (table : RequestTable) (request : BridgedRequest) (piece : Piece) : Type 0 where
  pub place : ℕ
  pub unanswered : request.flight.answered ≤ place
  pub sent : place < request.flight.sent
  pub planned : slice_get (planned request.flight) place ≡ Some piece
  pub range : PlannedRange
  pub plan : request.flight.plan ≡ Some range
  pub listed : IsListed (pieces range) piece
  pub at : IsPlannedAt table.config order.regions request range
  pub pages : IsPageMap order.regions
  pub served : IsServed table.config order.regions request
  pub started : started table request.flight.number ≡ true
  pub unfinished : is_finished table request.flight.number ≡ false

record HasRange (flight : LiveRequest) : Type 0 where
  range : PlannedRange
  is : flight.plan ≡ Some range

has_range : (flight : LiveRequest) → (flight.plan ≡ None → flight.done ≡ true) → flight.done ≡ false → HasRange flight
has_range flight no_plan undone = by_plan flight.plan refl
  where
    by_plan : (plan : Option PlannedRange) → flight.plan ≡ plan → HasRange flight
    by_plan None is = absurd (cc (no_plan is, undone))
    by_plan (Some range) is = record { range = range; is = is }

begun : (own : Option ℕ) (id : ℕ) (done : Bool) → own ≡ Some id → (is_some own || done) ≡ true
begun own id done is = rw is refl

pub going_on : (order : Order) (state : WorldState) (id : ℕ) (request : BridgedRequest) (k : ℕ) (piece : Piece) → IsSoundWorld state → state.bridge.requests.regions ≡ order.regions
    → IsHolder state.bridge.requests id request → slice_get (outstanding request.flight) k ≡ Some piece → IsGoingOn order state.bridge.requests request piece
going_on order state id request k piece sound regions known there =
    let table = state.bridge.requests in
    let (at_place, before) = part_at (planned request.flight) request.flight.answered request.flight.sent k piece there in
    let plan = has_range request.flight known.sound.no_plan known.live in
    let served = subst (λ (map : List Region). IsServed table.config map request) regions known.served in
    let pages = subst IsPageMap regions known.served.pages in
    record {
      place = k + request.flight.answered;
      unanswered = omega arith;
      sent = before;
      planned = at_place;
      range = plan.range;
      plan = plan.is;
      listed = (k + request.flight.answered, piece_of_plan request.flight plan.range (k + request.flight.answered) piece plan.is at_place);
      at = planned_at table.config order.regions request plan.range sound.bridge_laws.requests.config pages served plan.is;
      pages = pages;
      served = served;
      started = ap (λ (found : Option BridgedRequest). nat_lt request.flight.number table.accepted && has_begun found) by_number ∙ both known.sound.number (begun request.flight.id id request.flight.done known.has_id);
      unfinished = ap (λ (found : Option BridgedRequest). nat_lt request.flight.number table.accepted && is_over found) by_number ∙ neither known.live;
    }
  where
    by_number : find (is_numbered request.flight.number) state.bridge.requests.live ≡ Some request
    by_number = found_by_number (holds id) state.bridge.requests.live request sound.bridge_laws.requests.flights.rising known.held

    both : request.flight.number < state.bridge.requests.accepted → (is_some request.flight.id || request.flight.done) ≡ true
        → (nat_lt request.flight.number state.bridge.requests.accepted && (is_some request.flight.id || request.flight.done)) ≡ true
    both below has = rw (lt-ltb request.flight.number state.bridge.requests.accepted below, has) refl

    neither : request.flight.done ≡ false → (nat_lt request.flight.number state.bridge.requests.accepted && request.flight.done) ≡ false
    neither undone = grind (arith, undone)

-- its place is counted through the bursts of its phase
pub going_on-place : (order : Order) (state : WorldState) (id : ℕ) (request : BridgedRequest) (k : ℕ) (piece : Piece) (sound : IsSoundWorld state) (regions : state.bridge.requests.regions ≡ order.regions)
    (known : IsHolder state.bridge.requests id request) (there : slice_get (outstanding request.flight) k ≡ Some piece) → (going_on order state id request k piece sound regions known there).place ≡ k + request.flight.answered
unfolding going_on
going_on-place order state id request k piece sound regions known there = refl

-- the bytes of a burst's transfers are bytes that its request touches
pub transfer_touches : (order : Order) (table : RequestTable) (request : BridgedRequest) (piece : Piece) (n x : ℕ) → IsGoingOn order table request piece
    → asked order request.flight.number ≡ Some (request_of request.message) → 1 ≤ n → n ≤ piece.len + 1 → transfer_has piece.address piece.size n x ≡ true
    → touches order request.flight.number x ≡ true
transfer_touches order table request piece n x going is_asked first last has =
    range_touched order table.config request going.range x going.served going.at is_asked going.plan
    (transfer_inside table.config order.regions request going.range piece n x going.at going.listed first last has)
