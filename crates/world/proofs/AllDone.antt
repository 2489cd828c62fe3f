-- Where bridge and memory can do nothing by themselves no work is left, and every request is done. It knows the laws of a sound world and
-- what is enabled; no event, no bytes.
use Rattle.std.proofs.Common.{◌≡◌, ℕ, zero, suc, ◌+◌, ◌<◌, ◌≤◌, nat_lt, Bool, true, false, List, [], ◌∷◌, ◌++◌, length, take, map, Option, Some, None, get_or, is_some, refl, ap, sym, ◌∙◌, subst, arith, length-drop, length-take}
use Rattle.std.specs.Prelude.{filter, filter_map, find, flat_map, if◌then◌else◌, option_map, slice_get, sum_by}
use Rattle.std.specs.List.{AllByRecursion, list_any, range_with_len}
use Rattle.std.proofs.lemmas.Bool.{cases_eq, eq-eqb, leb-false, lt-ltb}
use Rattle.std.proofs.lemmas.Bool.Decides.{nat_tests}
use Rattle.std.proofs.lemmas.List.{length-append, nil_from_length}
use Rattle.std.proofs.lemmas.List.Sums.{sum_by-cons}
use Rattle.std.proofs.lemmas.Option.{same_Some, slice_get-get_or}
use Rattle.bus_words.proofs.PlaceChanges.{all-find, all-got, find-passes}
use Rattle.bus_words.proofs.MappedPlaces.{all-mapped}
use Rattle.bus_words.proofs.FoundChanges.{filter-found}
use Rattle.axi_beats.specs.Bursts.{Burst, ReadBurst, WriteBurst}
use Rattle.axi_beats.specs.declared.ArBeat.{ArBeat}
use Rattle.axi_checker.specs.OpenBursts.{OpenBursts, OpenRead, OpenWrite, read_of_id, write_of_id}
use Rattle.burst_plan.specs.declared.Piece.{Piece}
use Rattle.flight_table.specs.Laws.{AreRising, IsSoundRequest}
use Rattle.flight_table.specs.LiveRequests.{LiveRequest, planned, unanswered}
use Rattle.flight_table.specs.Order.{free_id, holds_back, holds_id, id_for, is_held}
use Rattle.flight_table.specs.Tables.{is_undone}
use Rattle.flight_table.specs.Work.{unsent_work}
use Rattle.bridge_core.specs.Bridge.{BridgeState, burst_to_send}
use Rattle.bridge_core.specs.HeldRequests.{table_limits_of, BridgedRequest, RequestTable, flights_of, holder, holds, may_send}
use Rattle.bridge_core.specs.Laws.{IsPartWay, IsServed, IsSoundBridge, IsSoundRequestTable, came_of_next, open_reads, open_writes, outstanding, reads_held, writes_held}
use Rattle.bridge_core.proofs.AnswerLinks.{holder_known}
use Rattle.bridge_core.proofs.NextSending.{next_sending-some}
use Rattle.bridge_core.proofs.JoinedRequests.{limits_made}
use Rattle.bridge_core.proofs.ResponseLinks.{not_so}
use Rattle.bridge_core.proofs.SendingLinks.{sound_requests}
use Rattle.bridge_core.proofs.SentBursts.{either_side}
use Rattle.bridge_core.proofs.SentLinks.{none_sent}
use Rattle.subordinate.specs.FreeMemory.{FreeMemory, Pending, b_of, beat_at, ids_with_b, ids_with_r, is_read_of, is_waiting, is_write_of, open_read_in, open_write_in, r_of, r_with, reads_as, transfers_in, waiting_beats, waiting_in, work_in, work_open, writes_as}
use Rattle.subordinate.specs.Inside.{count_waiting}
use Rattle.subordinate.specs.Laws.{IsBeatOf, IsSoundMemory, IsSoundPending, queue_of, queue_of_burst}
use Rattle.subordinate.specs.declared.BeatState.{BeatState}
use Rattle.subordinate.specs.declared.BeatState.TheVariants.{Waiting, Written, Captured}
use Rattle.subordinate.proofs.BeatStates.{length-waiting_in, none_waiting}
use Rattle.world.specs.Laws.{IsSoundWorld}
use Rattle.world.specs.World.{IsQuiet, WorldState, enabled, perform_at, pumps_enabled, work_left}
use Rattle.world.specs.declared.Step.{Step}
use Rattle.world.specs.declared.Step.TheVariants.{AnswerB, AnswerR, Pump}
use Rattle.subordinate.proofs.Monitors.{oldest_read_seen}

-- ---- searches

-- what a search finds nowhere isn't what another finds
none_found : {X : Type 0} (p q : X → Bool) (xs : List X) (x : X) → find p xs ≡ None → find q xs ≡ Some x → p x ≡ false
none_found p q [] x none found = absurd (cc (found))
none_found p q (y ∷ ys) x none found = grind (arith, none_found p q ys x)

found_or_none : {X : Type 0} (P : Type 0) (o : Option X) → (o ≡ None → P) → ((x : X) → o ≡ Some x → P) → P
found_or_none P None none some = none refl
found_or_none P (Some x) none some = some x refl

-- ---- with no burst open each request has had the answers of all that it sent

no_bursts : (id : ℕ) (write : Bool) (came : ℕ) (pieces : List Piece) → open_writes id write pieces ≡ [] → open_reads id write came pieces ≡ [] → pieces ≡ []
no_bursts id write came pieces writes reads = nil_from_length pieces (sym (either_side id write came pieces) ∙ rw (writes, reads) refl)

all_answered : (flight : LiveRequest) → flight.sent ≤ length (planned flight) → outstanding flight ≡ [] → flight.sent ≤ flight.answered
all_answered flight most none =
    let count : length (outstanding flight) ≡ 0 = ap length none in
    omega (arith, count, length-drop flight.answered (take flight.sent (planned flight)), length-take flight.sent (planned flight), most)

pub record IsIdle (bridge : BridgeState) : Type 0 where
  pub writes : bridge.open_bursts.writes ≡ []
  pub reads : bridge.open_bursts.reads ≡ []

holder_idle : (bridge : BridgeState) (id : ℕ) (request : BridgedRequest) → IsSoundBridge bridge → IsIdle bridge → holder id bridge.requests.live ≡ Some request → outstanding request.flight ≡ []
holder_idle bridge id request sound idle held =
    let linked = sound.linked id in
    let writes = ap (writes_held id) (sym held) ∙ sym linked.writes ∙ ap (λ (ws : List OpenWrite). filter (write_of_id id) ws) idle.writes in
    let reads = ap (reads_held id) (sym held) ∙ sym linked.reads ∙ ap (λ (rs : List OpenRead). filter (read_of_id id) rs) idle.reads in
    no_bursts id request.flight.writing (came_of_next request) (outstanding request.flight) writes reads

-- ---- a request that is ready

present_at : {X : Type 0} (xs : List X) (k : ℕ) → k < length xs → is_some (slice_get xs k) ≡ true
present_at [] k within = absurd (omega (arith, within))
present_at (x ∷ xs) zero within = refl
present_at (x ∷ xs) (suc k) within = present_at xs k (omega (arith, within))

-- a live request that isn't done is ready where it may have an ID, nobody holds it back and no burst of it is outstanding
ready_now : (table : RequestTable) (request : BridgedRequest) → IsSoundRequestTable table → IsServed table.config table.regions request
    → IsSoundRequest (table_limits_of table.config) table.accepted request.flight → request.flight.done ≡ false → request.flight.sent ≤ request.flight.answered
    → is_some (id_for (table_limits_of table.config) (flights_of table.live) request.flight) ≡ true → is_held (flights_of table.live) request.flight ≡ false → may_send table request ≡ true
ready_now table request sound served each live answered some free =
    let flight = request.flight in
    let going = leb-false (length (planned flight)) flight.answered (sym served.done ∙ live) in
    let limits = limits_made table.config sound.config in
    rw (live, present_at (planned flight) flight.sent (omega (arith, going, each.answered)), lt-ltb (unanswered flight) table.config.depth (omega (arith, answered, limits.some_depth)), some, free) refl

-- nothing goes, so no request is ready
none_ready : (bridge : BridgeState) → IsSoundBridge bridge → burst_to_send bridge ≡ None → find (may_send bridge.requests) bridge.requests.live ≡ None
none_ready bridge sound none =
    found_or_none (find (may_send bridge.requests) bridge.requests.live ≡ None) (find (may_send bridge.requests) bridge.requests.live) (λ is. is)
    (λ request is.
    let (sending, going) = next_sending-some bridge.requests request sound.requests is in
    absurd (cc (none, ap (option_map (λ s. s.burst)) going)))

-- ---- so nobody holds an ID

held_ready : (bridge : BridgeState) (id : ℕ) (request : BridgedRequest) → IsSoundBridge bridge → IsIdle bridge → holder id bridge.requests.live ≡ Some request → may_send bridge.requests request ≡ true
held_ready bridge id request sound idle held =
    let table = bridge.requests in
    let known = holder_known table id request sound.requests held in
    let answered = all_answered request.flight known.sound.sent (holder_idle bridge id request sound idle held) in
    let in_order =
    all-find (λ (r : BridgedRequest). r.flight.done ≡ false → is_held (flights_of table.live) r.flight ≡ true → r.flight.id ≡ None) (holds id) table.live request
    (all-mapped (λ r. r.done ≡ false → is_held (flights_of table.live) r ≡ true → r.id ≡ None) (λ (r : BridgedRequest). r.flight) table.live sound.requests.flights.in_order) held known.live in
    ready_now table request sound.requests known.served known.sound known.live answered (rw known.has_id refl)
    (free (is_held (flights_of table.live) request.flight) request.flight.id known.has_id in_order)
  where
    free : (b : Bool) (own : Option ℕ) → own ≡ Some id → (b ≡ true → own ≡ None) → b ≡ false
    free b own has none = grind (arith, has, none)

nobody_holds : (bridge : BridgeState) (id : ℕ) → IsSoundBridge bridge → IsIdle bridge → burst_to_send bridge ≡ None → holder id bridge.requests.live ≡ None
nobody_holds bridge id sound idle none =
    found_or_none (holder id bridge.requests.live ≡ None) (holder id bridge.requests.live) (λ is. is)
    (λ request is. absurd (cc (held_ready bridge id request sound idle is, none_found (may_send bridge.requests) (holds id) bridge.requests.live request (none_ready bridge sound none) is)))

-- ---- and the first request that isn't done would be ready

abbrev undone : BridgedRequest → Bool
undone request = is_undone request.flight

-- those with larger numbers hold nobody back
later_hold_none : (r : LiveRequest) (live : List BridgedRequest) → AllByRecursion (λ m. r.number < m) (map (λ (f : LiveRequest). f.number) (flights_of live)) → list_any (holds_back r) (flights_of live) ≡ false
later_hold_none r [] all = refl
later_hold_none r (e ∷ live) all =
    let after : nat_lt e.flight.number r.number ≡ false = grind (arith, nat_tests, all.0) in
    rw after (later_hold_none r live all.1)

first_not_held : (live : List BridgedRequest) (r : BridgedRequest) → AreRising (map (λ (f : LiveRequest). f.number) (flights_of live)) → find undone live ≡ Some r
    → list_any (holds_back r.flight) (flights_of live) ≡ false
first_not_held [] r rising found = absurd (cc (found))
first_not_held (e ∷ live) r rising found = grind (arith, nat_tests, later_hold_none e.flight live rising.0, first_not_held live r rising.1)

-- nobody holds 0, so it is free
free_zero : (ids : ℕ) (live : List BridgedRequest) → 1 ≤ ids → holder 0 live ≡ None → is_some (free_id ids (flights_of live)) ≡ true
free_zero zero live some none = absurd (omega (arith, some))
free_zero (suc ids) live some none = rw (not_any live none) refl
  where
    not_any : (live : List BridgedRequest) → holder 0 live ≡ None → list_any (holds_id 0) (flights_of live) ≡ false
    not_any [] none = refl
    not_any (e ∷ live) none = grind (arith, none, not_any live)

pub no_undone : (bridge : BridgeState) → IsSoundBridge bridge → IsIdle bridge → burst_to_send bridge ≡ None → find undone bridge.requests.live ≡ None
no_undone bridge sound idle none = found_or_none (find undone bridge.requests.live ≡ None) (find undone bridge.requests.live) (λ is. is) (λ request is. absurd (impossible request is))
  where
    table : RequestTable
    table = bridge.requests

    impossible : (request : BridgedRequest) → find undone table.live ≡ Some request → ⊥
    impossible request is = by_id request.flight.id refl
      where
        live : request.flight.done ≡ false
        live = not_so request.flight.done (find-passes undone table.live request is)

        each : IsSoundRequest (table_limits_of table.config) table.accepted request.flight
        each = all-find (λ (r : BridgedRequest). IsSoundRequest (table_limits_of table.config) table.accepted r.flight) undone table.live request (sound_requests table sound.requests) is

        served : IsServed table.config table.regions request
        served = all-find (IsServed table.config table.regions) undone table.live request sound.requests.served is

        by_id : (own : Option ℕ) → request.flight.id ≡ own → ⊥
        by_id (Some id) own =
            let passes : holds id request ≡ true = rw own (eq-eqb id id refl) in
            cc (passes, none_found (holds id) undone table.live request (nobody_holds bridge id sound idle none) is)
        by_id None own =
            let unsent : request.flight.sent ≡ 0 = none_sent (table_limits_of table.config) table.accepted request.flight each live own in
            let limits = limits_made table.config sound.requests.config in
            let free = free_zero table.config.ids table.live limits.some_ids (nobody_holds bridge 0 sound idle none) in
            let ready = ready_now table request sound.requests served each live (omega (arith, unsent)) (rw own free) (first_not_held table.live request sound.requests.flights.rising is) in
            cc (ready, none_found (may_send table) undone table.live request (none_ready bridge sound none) is)

-- ---- no burst is open

none_passes : (p : ℕ → Bool) (from n k : ℕ) → filter p (range_with_len from n) ≡ [] → from ≤ k → k < from + n → p k ≡ false
none_passes p from zero k none low high = absurd (omega (arith, low, high))
none_passes p from (suc n) k none low high = grind (arith, cases_eq k from, none_passes p (from + 1) n k)

-- no beat of the first open burst waits, where none waits at all
first_performed : (p : Pending) (ps : List Pending) → flat_map waiting_in (p ∷ ps) ≡ [] → count_waiting p.beats ≡ 0
first_performed p ps none =
    let count : length (waiting_in p ++ flat_map waiting_in ps) ≡ 0 = ap (λ (places : List (ℕ × ℕ)). length places) none in
    omega (arith, count, length-append (waiting_in p) (flat_map waiting_in ps), length-waiting_in p)

none_waits : (beats : List BeatState) → count_waiting beats ≡ 0 → list_any is_waiting beats ≡ false
none_waits beats none = not_so (list_any is_waiting beats) (sym (none_waiting beats) ∙ eq-eqb (count_waiting beats) 0 none)

not_waiting_at : (beats : List BeatState) (n : ℕ) (beat : BeatState) → count_waiting beats ≡ 0 → slice_get beats n ≡ Some beat → is_waiting beat ≡ false
not_waiting_at [] n beat none at = absurd (cc (at))
not_waiting_at (Waiting ∷ beats) n beat none at = absurd (omega (arith, none))
not_waiting_at (Written ∷ beats) zero beat none at = ap is_waiting (sym (same_Some Written beat at))
not_waiting_at (Captured payload resp ∷ beats) zero beat none at = ap is_waiting (sym (same_Some (Captured payload resp) beat at))
not_waiting_at (Written ∷ beats) (suc n) beat none at = not_waiting_at beats n beat none at
not_waiting_at (Captured payload resp ∷ beats) (suc n) beat none at = not_waiting_at beats n beat none at

read_gives : (ar : ArBeat) (id : ℕ) (p : Pending) (beat : BeatState) → IsBeatOf (ReadBurst ar) beat → is_waiting beat ≡ false → is_some (r_with id p (Some beat)) ≡ true
read_gives ar id p beat of_read performed = grind (arith, of_read, performed)

-- a memory without enabled steps
pub record IsStill (memory : FreeMemory) : Type 0 where
  pub waiting : waiting_beats memory ≡ []
  pub bs : ids_with_b memory ≡ []
  pub rs : ids_with_r memory ≡ []

nothing_open : (memory : FreeMemory) → IsSoundMemory memory → IsStill memory → ((id : ℕ) (p : Pending) → find (is_read_of id) memory.pending ≡ Some p → p.answered < transfers_in p.burst) → memory.pending ≡ []
nothing_open memory sound still to_come = by_pending memory.pending refl
  where
    by_burst : (p : Pending) (ps : List Pending) (burst : Burst) → memory.pending ≡ p ∷ ps → p.burst ≡ burst → AllByRecursion (IsSoundPending memory.bus_bytes) (p ∷ ps) → queue_of p < 32
        → count_waiting p.beats ≡ 0 → ⊥
    by_burst p ps (WriteBurst aw ws) is burst each known performed =
        let below : aw.id < 16 = omega (arith, known, ap queue_of_burst burst) in
        let first : is_write_of aw.id p ≡ true = ap (writes_as aw.id) burst ∙ eq-eqb aw.id aw.id refl in
        let found : find (is_write_of aw.id) memory.pending ≡ Some p = ap (find (is_write_of aw.id)) is ∙ rw first refl in
        let gives : is_some (b_of memory aw.id) ≡ true = rw (found, none_waits p.beats performed) refl in
        cc (gives, none_passes (λ id. is_some (b_of memory id)) 0 16 aw.id still.bs (omega arith) (omega (arith, below)))
    by_burst p ps (ReadBurst ar) is burst each known performed =
        let below : ar.id < 16 = omega (arith, known, ap queue_of_burst burst) in
        let first : is_read_of ar.id p ≡ true = ap (reads_as ar.id) burst ∙ eq-eqb ar.id ar.id refl in
        let found : find (is_read_of ar.id) memory.pending ≡ Some p = ap (find (is_read_of ar.id)) is ∙ rw first refl in
        let within : p.answered < length p.beats = omega (arith, to_come ar.id p found, each.0.whole) in
        let beat = get_or p.beats p.answered Waiting in
        let at : beat_at p p.answered ≡ Some beat = slice_get-get_or p.beats p.answered Waiting within in
        let of_read : IsBeatOf (ReadBurst ar) beat = subst (λ (b : Burst). IsBeatOf b beat) burst (all-got (IsBeatOf p.burst) p.beats p.answered beat each.0.beats at) in
        let gives : is_some (r_of memory ar.id) ≡ true = rw (found, at) (read_gives ar ar.id p beat of_read (not_waiting_at p.beats p.answered beat performed at)) in
        cc (gives, none_passes (λ id. is_some (r_of memory id)) 0 16 ar.id still.rs (omega arith) (omega (arith, below)))

    by_pending : (pending : List Pending) → memory.pending ≡ pending → memory.pending ≡ []
    by_pending [] is = is
    by_pending (p ∷ ps) is =
        absurd (by_burst p ps p.burst is refl (subst (AllByRecursion (IsSoundPending memory.bus_bytes)) is sound.each)
        (subst (AllByRecursion (λ (q : Pending). queue_of q < 32)) is sound.few.known).0
        (first_performed p ps (ap (flat_map waiting_in) (sym is) ∙ still.waiting)))

-- ---- an open read has beats to come

first_read : (id : ℕ) (write : Bool) (came : ℕ) (pieces : List Piece) (read : OpenRead) (reads : List OpenRead) → IsPartWay write came pieces → open_reads id write came pieces ≡ read ∷ reads → read.came ≤ read.ar.len
first_read id write came pieces read reads way is = grind (arith, way, is)

beats_to_come : (state : WorldState) (id : ℕ) (p : Pending) → IsSoundWorld state → find (is_read_of id) state.memory.pending ≡ Some p → p.answered < transfers_in p.burst
beats_to_come state id p sound found =
    let bridge = state.bridge in
    let oldest = oldest_read_seen id state.memory.pending p found in
    let seen : find (read_of_id id) bridge.open_bursts.reads ≡ Some (record { ar = oldest.ar; came = p.answered }) =
    ap (λ (outstanding : OpenBursts). find (read_of_id id) outstanding.reads) sound.outstanding ∙ oldest.seen
    in
    let listed = sym (sound.bridge_laws.linked id).reads ∙ filter-found (read_of_id id) bridge.open_bursts.reads _ seen in
    let few : p.answered ≤ oldest.ar.len = by_holder (holder id bridge.requests.live) refl (record { ar = oldest.ar; came = p.answered }) _ listed in
    omega (arith, few, ap transfers_in oldest.burst)
  where
    by_holder : (held : Option BridgedRequest) → holder id state.bridge.requests.live ≡ held → (read : OpenRead) (reads : List OpenRead) → reads_held id held ≡ read ∷ reads → read.came ≤ read.ar.len
    by_holder None is read reads listed = absurd (cc (listed))
    by_holder (Some request) is read reads listed =
        let known = holder_known state.bridge.requests id request sound.bridge_laws.requests is in
        first_read id request.flight.writing (came_of_next request) (outstanding request.flight) read reads known.served.next listed

-- ---- nothing is enabled

none_undone : (live : List BridgedRequest) → find undone live ≡ None → length (filter is_undone (flights_of live)) ≡ 0 × (sum_by unsent_work (flights_of live) ≡ 0)
none_undone [] none = (refl, refl)
none_undone (e ∷ live) none =
    let others = none_undone live in
    let work = sum_by-cons unsent_work e.flight (flights_of live) in
    (grind (arith, none, others), grind (arith, none, others, work))

pub nothing_left : (state : WorldState) → IsSoundWorld state → burst_to_send state.bridge ≡ None → IsStill state.memory → IsQuiet state × (work_left state ≡ 0)
nothing_left state sound none still =
    let empty = nothing_open state.memory sound.memory_laws still (λ id p found. beats_to_come state id p sound found) in
    let writes : state.bridge.open_bursts.writes ≡ [] =
    ap (λ (outstanding : OpenBursts). outstanding.writes) sound.outstanding ∙ ap (filter_map (λ (p : Pending). open_write_in p.burst)) empty
    in
    let reads : state.bridge.open_bursts.reads ≡ [] =
    ap (λ (outstanding : OpenBursts). outstanding.reads) sound.outstanding ∙ ap (filter_map (λ (p : Pending). open_read_in p.answered p.burst)) empty
    in
    let all = none_undone state.bridge.requests.live (no_undone state.bridge sound.bridge_laws (record { writes = writes; reads = reads }) none) in
    let work : work_open state.memory ≡ 0 = ap (sum_by work_in) empty in
    (all.0, omega (arith, all.1, work))

is_empty : {X : Type 0} (xs ys : List X) → xs ++ ys ≡ [] → (xs ≡ []) × (ys ≡ [])
is_empty [] ys none = (refl, none)
is_empty (x ∷ xs) ys none = absurd (cc (none))

no_items : {X Y : Type 0} (f : X → Y) (xs : List X) → map f xs ≡ [] → xs ≡ []
no_items f [] none = refl
no_items f (x ∷ xs) none = absurd (cc (none))

no_burst_goes : {X : Type 0} (o : Option X) (step : Step) → (if is_some o then step ∷ [] else []) ≡ [] → o ≡ None
no_burst_goes o step none = grind (arith, none)

-- no step is enabled, of whatever kind
pub nothing_enabled : (state : WorldState) → IsSoundWorld state → enabled state ≡ [] → IsQuiet state × (work_left state ≡ 0)
nothing_enabled state sound none =
    let pumps = is_empty (pumps_enabled state) (map perform_at (waiting_beats state.memory) ++ (map AnswerB (ids_with_b state.memory) ++ map AnswerR (ids_with_r state.memory))) none in
    let performs = is_empty (map perform_at (waiting_beats state.memory)) (map AnswerB (ids_with_b state.memory) ++ map AnswerR (ids_with_r state.memory)) pumps.1 in
    let answers = is_empty (map AnswerB (ids_with_b state.memory)) (map AnswerR (ids_with_r state.memory)) performs.1 in
    nothing_left state sound (no_burst_goes (burst_to_send state.bridge) Pump pumps.0)
    (record { waiting = no_items perform_at (waiting_beats state.memory) performs.0; bs = no_items AnswerB (ids_with_b state.memory) answers.0; rs = no_items AnswerR (ids_with_r state.memory) answers.1 })
