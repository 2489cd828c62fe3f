-- Each step of bridge and memory takes one from the work that is left and spared. It knows how each event changes counts; bytes are hidden.
use Rattle.std.proofs.Common.{◌≡◌, ℕ, zero, suc, ◌+◌, ◌-◌, ◌<◌, ◌≤◌, Bool, true, false, ◌&&◌, not, List, [], ◌∷◌, ◌++◌, length, drop, map, Option, Some, None, is_some, refl, ap, sym, ◌∙◌, subst, arith, inl, inr}
use Rattle.std.specs.Prelude.{filter, find, if◌then◌else◌, slice_get, sum_by}
use Rattle.std.specs.List.{range_with_len}
use Rattle.std.proofs.lemmas.Bool.{and_parts, cond_both, cases_lt, leb-true}
use Rattle.std.proofs.lemmas.List.{drop_all}
use Rattle.std.proofs.lemmas.List.Sums.{sum_by-cons}
use Rattle.std.proofs.lemmas.Option.{same_Some, slice_get-map}
use Rattle.bus_words.specs.Places.{change_first}
use Rattle.bus_words.proofs.MappedPlaces.{map_some}
use Rattle.bus_words.proofs.StoredPlaces.{slice_get-append-after, slice_get-append-before}
use Rattle.axi_beats.specs.Bursts.{Burst}
use Rattle.axi_beats.specs.declared.BBeat.{BBeat}
use Rattle.axi_beats.specs.declared.RBeat.{RBeat}
use Rattle.burst_plan.specs.Pieces.{PlannedRange}
use Rattle.burst_plan.specs.declared.Piece.{Piece}
use Rattle.flight_table.specs.LiveRequests.{LiveRequest, finished, is_settled, next_piece, planned, with_answered, with_sent, with_write}
use Rattle.flight_table.specs.Work.{answers_of_burst, beats_of_burst, later_work, spared_work, unsent_work, work_of_bursts}
use Rattle.bridge_core.specs.Bridge.{after_sent, burst_to_send}
use Rattle.bridge_core.specs.HeldRequests.{BridgedRequest, after_read, after_response, after_sending, flights_of, holds, is_numbered, may_send, outline_in, settled, value_found}
use Rattle.bridge_core.specs.Sending.{Sending, burst_of_piece, next_sending}
use Rattle.bridge_core.proofs.AnswerLinks.{finds_reader, finds_writer}
use Rattle.bridge_core.proofs.NextSending.{next_found}
use Rattle.bridge_core.proofs.ResponseLinks.{not_so}
use Rattle.bridge_core.proofs.SentLinks.{found_by_number}
use Rattle.responses.specs.Gathered.{Gathering, after_b, after_r}
use Rattle.subordinate.specs.FreeMemory.{answers_left, b_of, ids_with_b, ids_with_r, r_of, transfers_in, waiting_beats, work_open, with_burst}
use Rattle.world.specs.Laws.{IsSoundWorld, work_spared}
use Rattle.world.specs.World.{WorldState, answered_b, answered_r, enabled, next, perform_at, pumps_enabled, work_left}
use Rattle.world.specs.declared.Step.{Step}
use Rattle.world.specs.declared.Step.TheVariants.{AnswerB, AnswerR, Perform, Pump}
use Rattle.world.proofs.Sums.{sum_between}
use Rattle.world.proofs.OpenWork.{waiting_found, work_open-b, work_open-performed, work_open-r, work_open-sent}
use Rattle.world.proofs.TakesAll.{b_unbroken, r_unbroken}

-- ---- the work of the live requests

abbrev unsent_of : BridgedRequest → ℕ
unsent_of request = unsent_work request.flight

abbrev spared_of : BridgedRequest → ℕ
spared_of request = spared_work request.flight

unsent_by_flight : (live : List BridgedRequest) → sum_by unsent_work (flights_of live) ≡ sum_by unsent_of live
unsent_by_flight [] = refl
unsent_by_flight (request ∷ live) = sum_by-cons unsent_work request.flight (flights_of live) ∙ omega (arith, unsent_by_flight live, sum_by-cons unsent_of request live)

-- ---- a burst is sent

pub first_dropped : {X : Type 0} (xs : List X) (k : ℕ) (x : X) → slice_get xs k ≡ Some x → drop k xs ≡ x ∷ drop (suc k) xs
first_dropped [] k x there = absurd (cc (there))
first_dropped {X = X} (y ∷ ys) zero x there = ap (λ (z : X). z ∷ ys) (same_Some y x there)
first_dropped (y ∷ ys) (suc k) x there = first_dropped ys k x there

work_first : (write : Bool) (piece : Piece) (pieces : List Piece)
    → work_of_bursts write (piece ∷ pieces) ≡ 1 + (beats_of_burst piece + answers_of_burst write piece) + work_of_bursts write pieces
work_first write piece pieces = omega (arith, sum_by-cons beats_of_burst piece pieces, sum_by-cons (answers_of_burst write) piece pieces)

unsent-sent : (flight : LiveRequest) (id : ℕ) (piece : Piece) → flight.done ≡ false → next_piece flight ≡ Some piece
    → unsent_work flight ≡ 1 + (beats_of_burst piece + answers_of_burst flight.writing piece) + unsent_work (with_sent id flight)
unsent-sent flight id piece live is =
    let next : flight.sent + 1 ≡ suc flight.sent = omega arith in
    let one = ap (work_of_bursts flight.writing) (first_dropped (planned flight) flight.sent piece is) ∙ work_first flight.writing piece (drop (suc flight.sent) (planned flight)) in
    rw (live, next) (omega (arith, one))

-- the memory gets it
burst_work : (id : ℕ) (request : BridgedRequest) (range : PlannedRange) (piece : Piece)
    → transfers_in (burst_of_piece id request range piece) + answers_left 0 (burst_of_piece id request range piece) ≡ beats_of_burst piece + answers_of_burst request.flight.writing piece
burst_work id request range piece = grind arith

-- an event that takes one from the work; what was spared stays spared
pub record TakesOne (old new : WorldState) : Type 0 where
  pub work : work_left old + work_spared old ≡ 1 + (work_left new + work_spared new)
  pub spared : work_spared old ≤ work_spared new

sent_takes : (state : WorldState) (sending : Sending) (last : Option Burst) → IsSoundWorld state → next_sending state.bridge.requests ≡ Some sending
    → TakesOne state (record { bridge = after_sent state.bridge sending; memory = with_burst state.memory sending.burst; last_sent = last })
sent_takes state sending last sound is =
    let table = state.bridge.requests in
    let next = next_found table sending is in
    let request = sending.request in
    let there = found_by_number (may_send table) table.live request sound.bridge_laws.requests.flights.rising next.found in
    let unsent = sum_between unsent_of (is_numbered request.flight.number) (after_sending sending.id) table.live request there in
    let spared = sum_between spared_of (is_numbered request.flight.number) (after_sending sending.id) table.live request there in
    let one = unsent-sent request.flight sending.id next.piece next.ready.undone next.next in
    let memory = work_open-sent state.memory sending.burst in
    let burst = ap (λ (b : Burst). transfers_in b + answers_left 0 b) next.burst ∙ burst_work sending.id request next.range next.piece in
    let same : spared_of (after_sending sending.id request) ≡ spared_of request = refl in
    record {
      work = omega (arith, unsent, spared, one, memory, burst, same, unsent_by_flight table.live, unsent_by_flight (after_sent state.bridge sending).requests.live);
      spared = omega (arith, spared, same);
    }

pub pump_takes : (state : WorldState) (burst : Burst) → IsSoundWorld state → burst_to_send state.bridge ≡ Some burst → TakesOne state (next state Pump).state
pump_takes state burst sound is =
    map_some (λ (sending : Sending). sending.burst) (next_sending state.bridge.requests) burst is
    (λ sending going same. rw (is, going) (subst (λ (b : Burst). TakesOne state (record { bridge = after_sent state.bridge sending; memory = with_burst state.memory b; last_sent = Some b })) same
    (sent_takes state sending (Some sending.burst) sound going)))

-- ---- a beat is performed

pub perform_takes : (state : WorldState) (k serial beat : ℕ) → IsSoundWorld state → slice_get (waiting_beats state.memory) k ≡ Some (serial, beat) → TakesOne state (next state (Perform serial beat)).state
perform_takes state k serial beat sound there =
    let finds = waiting_found state.memory k (serial, beat) sound.memory_laws there in
    rw (finds.found, finds.waits) (record { work = omega (arith, work_open-performed state.memory serial beat finds.burst finds.found finds.waits); spared = omega arith })

-- ---- an answer is counted, and its request settled

-- a request without its unsent work keeps it as spared work
pub record IsSettled (old new : LiveRequest) : Type 0 where
  pub work : unsent_work new + spared_work new ≡ unsent_work old + spared_work old
  pub spared : spared_work old ≤ spared_work new

-- what isn't done has spared nothing
live_spared : (flight : LiveRequest) → flight.done ≡ false → spared_work flight ≡ 0
live_spared flight live = rw live refl

-- once all of a phase was answered, what is left is what comes after it
phase_over : (flight : LiveRequest) → flight.done ≡ false → is_settled flight ≡ true → flight.answered ≤ flight.sent → unsent_work flight ≡ later_work flight
phase_over flight live settles later =
    let all = leb-true (length (planned flight)) flight.answered settles in
    rw (live, drop_all flight.sent (planned flight) (omega (arith, all, later))) (omega arith)

finished_settles : (flight : LiveRequest) → flight.done ≡ false → is_settled flight ≡ true → flight.answered ≤ flight.sent → IsSettled flight (finished flight)
finished_settles flight live settles later =
    let left = phase_over flight live settles later in
    record { work = omega (arith, left, live_spared flight live); spared = omega (arith, live_spared flight live) }

write_settles : (flight : LiveRequest) → flight.done ≡ false → flight.writing ≡ false → is_settled flight ≡ true → flight.answered ≤ flight.sent → IsSettled flight (with_write flight)
write_settles flight live reads settles later =
    let left = phase_over flight live settles later in
    let next : later_work flight ≡ unsent_work (with_write flight) = rw (live, reads) (omega arith) in
    record { work = omega (arith, left, next, live_spared flight live, live_spared (with_write flight) live); spared = omega (arith, live_spared flight live) }

settles : (request : BridgedRequest) → request.flight.done ≡ false → request.flight.answered ≤ request.flight.sent → IsSettled request.flight (settled request).flight
settles request live later =
    cond_both (is_settled request.flight) _ _ (λ (r : BridgedRequest). IsSettled request.flight r.flight)
    (λ is.
    cond_both (not request.flight.writing && is_some (value_found request)) _ _ (IsSettled request.flight)
    (λ found. write_settles request.flight live (not_so request.flight.writing (and_parts (not request.flight.writing) (is_some (value_found request)) found).0) is later)
    (λ none. finished_settles request.flight live is later))
    (λ going. record { work = refl; spared = omega arith })

answered_settles : (request : BridgedRequest) (gathering : Gathering) → request.flight.done ≡ false → request.flight.answered < request.flight.sent
    → IsSettled request.flight (settled (record request { flight = with_answered request.flight; gathering = gathering })).flight
answered_settles request gathering live within =
    let counted = settles (record request { flight = with_answered request.flight; gathering = gathering }) live (omega (arith, within)) in
    record { work = counted.work; spared = counted.spared }

read_settles : (bus_bytes : ℕ) (r : RBeat) (request : BridgedRequest) → request.flight.done ≡ false → request.flight.answered < request.flight.sent
    → IsSettled request.flight (after_read bus_bytes r request).flight
read_settles bus_bytes r request live within = by_last r.last
  where
    gathers : Gathering
    gathers = after_r bus_bytes (outline_in request) r request.gathering.came request.gathering

    by_last : (b : Bool) → IsSettled request.flight (settled (record request { flight = if b then with_answered request.flight else request.flight; gathering = gathers })).flight
    by_last true = answered_settles request gathers live within
    by_last false = let counted = settles (record request { gathering = gathers }) live (omega (arith, within)) in record { work = counted.work; spared = counted.spared }

-- ---- an answer comes

answer_takes : (state new : WorldState) (test : BridgedRequest → Bool) (change : BridgedRequest → BridgedRequest) (request : BridgedRequest) → find test state.bridge.requests.live ≡ Some request
    → IsSettled request.flight (change request).flight → new.bridge.requests.live ≡ change_first test change state.bridge.requests.live → work_open state.memory ≡ 1 + work_open new.memory
    → TakesOne state new
answer_takes state new test change request found settling is memory =
    let live = state.bridge.requests.live in
    let spared = sum_between spared_of test change live request found in
    record {
      work =
          rw is (omega (arith, sum_between unsent_of test change live request found, spared, settling.work, memory, unsent_by_flight live, unsent_by_flight (change_first test change live)));
      spared = rw is (omega (arith, spared, settling.spared));
    }

pub answer_b_takes : (state : WorldState) (id : ℕ) (b : BBeat) → IsSoundWorld state → b_of state.memory id ≡ Some b → TakesOne state (next state (AnswerB id)).state
answer_b_takes state id b sound is =
    let writer = finds_writer state.bridge b sound.bridge_laws (b_unbroken state id b sound is) in
    rw is (answer_takes state (answered_b state id (Some b)).state (holds b.id) (after_response b.resp) writer.request writer.holder.held (answered_settles writer.request (after_b b.resp writer.request.gathering) writer.holder.live writer.next.within) refl
    (work_open-b state.memory id b is))

pub answer_r_takes : (state : WorldState) (id : ℕ) (r : RBeat) → IsSoundWorld state → r_of state.memory id ≡ Some r → TakesOne state (next state (AnswerR id)).state
answer_r_takes state id r sound is =
    let finds = finds_reader state.bridge r sound.bridge_laws (r_unbroken state id r sound is) in
    let bytes = state.bridge.requests.config.axi_bytes in
    rw is (answer_takes state (answered_r state id (Some r)).state (holds r.id) (after_read bytes r) finds.request finds.reader.holder.held (read_settles bytes r finds.request finds.reader.holder.live finds.reader.next.within) refl
    (work_open-r state.memory id r sound.memory_laws is))

-- ---- each enabled step

in_either : {X : Type 0} (xs ys : List X) (k : ℕ) (x : X) (P : Type 0) → slice_get (xs ++ ys) k ≡ Some x → (slice_get xs k ≡ Some x → P) → (slice_get ys (k - length xs) ≡ Some x → P) → P
in_either xs ys k x P there first later =
    elim (cases_lt k (length xs)) [
      | inl here ↦ first (sym (slice_get-append-before xs ys k here) ∙ there)
      | inr past ↦ later (sym (slice_get-append-after xs ys k past) ∙ there)
    ]

in_mapped : {X Y : Type 0} (f : X → Y) (xs : List X) (k : ℕ) (y : Y) (P : Type 0) → slice_get (map f xs) k ≡ Some y → ((x : X) → slice_get xs k ≡ Some x → f x ≡ y → P) → P
in_mapped f xs k y P there found = map_some f (slice_get xs k) y (sym (slice_get-map f xs k) ∙ there) found

-- what a filter keeps passes its test
kept_passes : {X : Type 0} (p : X → Bool) (xs : List X) (k : ℕ) (x : X) → slice_get (filter p xs) k ≡ Some x → p x ≡ true
kept_passes p [] k x there = absurd (cc (there))
kept_passes p (y ∷ ys) zero x there = grind (arith, there, kept_passes p ys 0 x)
kept_passes p (y ∷ ys) (suc k) x there = grind (arith, there, kept_passes p ys k x, kept_passes p ys (suc k) x)

some_value : {X : Type 0} (o : Option X) (P : Type 0) → is_some o ≡ true → ((x : X) → o ≡ Some x → P) → P
some_value None P some found = absurd (cc (some))
some_value (Some x) P some found = found x refl

only_pump : (o : Option Burst) (k : ℕ) (step : Step) (P : Type 0) → slice_get (if is_some o then Pump ∷ [] else []) k ≡ Some step → ((burst : Burst) → o ≡ Some burst → Pump ≡ step → P) → P
only_pump None k step P there found = absurd (cc (there))
only_pump (Some burst) zero step P there found = found burst refl (same_Some Pump step there)
only_pump (Some burst) (suc k) step P there found = absurd (cc (there))

pub enabled_takes : (state : WorldState) (k : ℕ) (step : Step) → IsSoundWorld state → slice_get (enabled state) k ≡ Some step → TakesOne state (next state step).state
enabled_takes state k step sound there =
    in_either (pumps_enabled state) (map perform_at (waiting_beats state.memory) ++ (map AnswerB (ids_with_b state.memory) ++ map AnswerR (ids_with_r state.memory))) k step Takes there
    (λ pumps. only_pump (burst_to_send state.bridge) k step Takes pumps (λ burst is same. subst TakesBy same (pump_takes state burst sound is)))
    (λ others. in_either (map perform_at (waiting_beats state.memory)) (map AnswerB (ids_with_b state.memory) ++ map AnswerR (ids_with_r state.memory)) (k - length (pumps_enabled state)) step Takes others
    (λ performs. in_mapped perform_at (waiting_beats state.memory) (k - length (pumps_enabled state)) step Takes performs
    (λ place is same. subst TakesBy same (perform_takes state (k - length (pumps_enabled state)) place.0 place.1 sound is)))
    (λ answers. in_either (map AnswerB (ids_with_b state.memory)) (map AnswerR (ids_with_r state.memory)) _ step Takes answers
    (λ bs. in_mapped AnswerB (ids_with_b state.memory) _ step Takes bs
    (λ id is same. some_value (b_of state.memory id) Takes (kept_passes (λ i. is_some (b_of state.memory i)) (range_with_len 0 16) _ id is) (λ b gives. subst TakesBy same (answer_b_takes state id b sound gives))))
    (λ rs. in_mapped AnswerR (ids_with_r state.memory) _ step Takes rs
    (λ id is same. some_value (r_of state.memory id) Takes (kept_passes (λ i. is_some (r_of state.memory i)) (range_with_len 0 16) _ id is) (λ r gives. subst TakesBy same (answer_r_takes state id r sound gives))))))
  where
    Takes : Type 0
    Takes = TakesOne state (next state step).state

    TakesBy : Step → Type 0
    TakesBy made = TakesOne state (next state made).state
