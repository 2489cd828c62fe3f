-- An answer of the memory keeps the order: the request that holds its ID has one more answer, and is settled. All that a B's write put is
-- written, and its response tells of the page; an R tells what its request finds, at the place of the next read. It knows the open burst that
-- was answered and its holder; which bytes the answer tells of is hidden.
use Rattle.std.specs.List.{filter, find, list_any, slice_get}
use Rattle.std.proofs.Common.{◌≡◌, ◌≢◌, ℕ, ◌≤◌, Bool, true, false, List, length, Some, ap, sym, ◌∙◌, subst, inl, inr, Option, None, refl, arith, ◌+◌, ◌==◌, [], ◌∷◌, if◌then◌else◌, filter_map}
use Rattle.std.proofs.lemmas.Bool.{cases_eq, cases_lt, cases_Bool}
use Rattle.std.proofs.lemmas.Option.{same_Some}
use Rattle.std.proofs.lemmas.Bool.Decides.{nat_tests}
use Rattle.bus_words.specs.Places.{change_first, without_first}
use Rattle.bus_words.proofs.PlaceChanges.{all-find, find-passes}
use Rattle.bus_words.proofs.FoundChanges.{IsNextOf, filter-found, filter-without-other, part-next}
use Rattle.tl_messages.specs.Requests.{request_of}
use Rattle.axi_beats.specs.Bursts.{Burst, ReadBurst}
use Rattle.axi_beats.specs.declared.BBeat.{BBeat}
use Rattle.axi_beats.specs.declared.Resp.{Resp}
use Rattle.axi_beats.specs.declared.ArBeat.{ArBeat}
use Rattle.axi_beats.specs.declared.RBeat.{RBeat}
use Rattle.axi_checker.specs.OpenBursts.{OpenBursts, OpenRead, read_of_id}
use Rattle.burst_plan.specs.declared.Region.{Region}
use Rattle.burst_plan.specs.declared.Piece.{Piece}
use Rattle.responses.specs.Gathered.{after_b}
use Rattle.flight_table.specs.Laws.{IsSoundRequest}
use Rattle.flight_table.specs.LiveRequests.{planned, with_answered}
use Rattle.bridge_core.specs.HeldRequests.{table_limits_of, BridgedRequest, RequestTable, holder, holds, is_numbered, settled, after_response, after_read}
use Rattle.bridge_core.specs.Laws.{IsServed, IsSoundRequestTable, came_of_next, open_read, outstanding, reads_held}
use Rattle.burst_plan.specs.PageMap.{address_of}
use Rattle.bridge_core.specs.Bridge.{after_b_beat, after_r_beat}
use Rattle.bridge_core.proofs.AnswerLinks.{IsHolder, IsReader, reader_known, reads_are}
use Rattle.bridge_core.proofs.ResponseLinks.{holder-other, one_holder, settled-other}
use Rattle.bridge_core.proofs.SendingLinks.{sound_requests}
use Rattle.bridge_core.proofs.ServedRequests.{all-change_found, IsReading}
use Rattle.bridge_core.proofs.ReadLinks.{after_read-last, after_read-more, after_read-other, closed_by, counted_by}
use Rattle.subordinate.specs.FreeMemory.{Pending, FreeMemory, b_from, b_of, is_waiting, is_write_of, start_of, beat_at, gives_last, is_read_of, open_read_in, pending_after_r, r_from, r_of, r_with, transfers_in}
use Rattle.subordinate.specs.Faults.{Faults, standing_at, write_response}
use Rattle.subordinate.specs.Laws.{IsSoundPending}
use Rattle.subordinate.specs.Inside.{with_answer}
use Rattle.subordinate.specs.declared.BeatState.{BeatState}
use Rattle.subordinate.specs.declared.BeatState.TheVariants.{Captured}
use Rattle.subordinate.proofs.OpenBursts.{pending_after_r-last, pending_after_r-more}
use Rattle.world.specs.Laws.{IsSoundWorld}
use Rattle.world.specs.World.{WorldState, changed, answered_b, answered_r}
use Rattle.world.specs.declared.Answer.{Answer}
use Rattle.world.specs.declared.Answer.TheVariants.{B, R}
use Rattle.world.proofs.Settled.{settled_number}
use Rattle.world_run.specs.InOrder.{AreBurstsOf, AreOfHolder, IsBurstOf, IsInItsTurn, KeepsOrder, is_of_id, memory_bytes, IsGathered, IsWriteOf, IsReadOf, TellsSerially}
use Rattle.world_run.specs.Serial.{Order, bytes_before, writes}
use Rattle.world_run.proofs.bursts.BurstBytes.{HasOpen, all_written_done, has_open, planned_at}
use Rattle.world_run.proofs.gathered.GatheredAnswers.{finds_unplanned, read_in_order, response_in_order}
use Rattle.world_run.proofs.HeldSteps.{HaveNumbers, HoldsBackIn, MovesOn, changed_table, found_changed, history_changed}
use Rattle.world_run.proofs.bursts.PerformedBytes.{IsFirstOf, answered_written, first_on, of_answered, of_one, of_same_holder, read_is_of, write_is_of}
use Rattle.world_run.proofs.ListChanges.{all_kept, filter-without-kept, find-kept, without_head, change_head, filter-change-kept, filter-change-other}
use Rattle.world_run.proofs.gathered.GatheredSteps.{HasWritten, settled_in_order}

-- ---- a request that is done has written all

pub done_has_written : (order : Order) (table : RequestTable) (wrote : ℕ → ℕ → Bool) (test : BridgedRequest → Bool) (request : BridgedRequest) → IsSoundRequestTable table → table.regions ≡ order.regions
    → find test table.live ≡ Some request → IsInItsTurn order table.config.axi_bytes wrote request → request.flight.done ≡ true → (x : ℕ) → writes order request.flight.number x ≡ true
    → wrote request.flight.number x ≡ true
done_has_written order table wrote test request sound regions found of done =
    let was = all-find (IsServed table.config table.regions) test table.live request sound.served found in
    let served = subst (λ (map : List Region). IsServed table.config map request) regions was in
    let each = all-find (λ (r : BridgedRequest). IsSoundRequest (table_limits_of table.config) table.accepted r.flight) test table.live request (sound_requests table sound) found in
    all_written_done order table.config table.config.axi_bytes wrote request sound.config served.pages served of done each.reads
    (λ range plan atomic isnt. finds_unplanned order table.config (table_limits_of table.config) table.accepted request range.address sound.config served each done atomic isnt
    (planned_at table.config order.regions request range sound.config served.pages served plan).address of.gathered)

-- ---- the step

-- what an answer to the request that holds an ID leaves: it is settled, and is in order still; the open bursts of the ID are those that it has
-- outstanding, and the others are as before
pub record LeavesInOrder (order : Order) (state : WorldState) (wrote : ℕ → ℕ → Bool) (id : ℕ) (request : BridgedRequest) (change : BridgedRequest → BridgedRequest) (after : List Pending) : Type 0 where
  pub answered : BridgedRequest
  pub becomes : change request ≡ settled answered
  pub number : answered.flight.number ≡ request.flight.number
  pub has_id : answered.flight.id ≡ Some id
  pub sent : answered.flight.sent ≤ length (planned answered.flight)
  pub in_order : IsInItsTurn order state.memory.bus_bytes wrote (settled answered)
  pub own : AreBurstsOf order state.memory.bus_bytes wrote answered.flight.number answered.flight.writing (filter (is_of_id id) after) (outstanding answered.flight)
  pub others : (j : ℕ) → id ≢ j → filter (is_of_id j) after ≡ filter (is_of_id j) state.memory.pending
  pub held_by_others : (j : ℕ) (r : BridgedRequest) → holds j r ≡ false → holds j (change r) ≡ false

pub answered_keeps : (order : Order) (state : WorldState) (id : ℕ) (request : BridgedRequest) (change : BridgedRequest → BridgedRequest) (after : List Pending) (open_bursts : OpenBursts) (answer : Answer)
    → IsSoundWorld state → (keeps : KeepsOrder order state) → IsHolder state.bridge.requests id request → LeavesInOrder order state keeps.wrote id request change after
    → IsSoundRequestTable (changed_table (holds id) change state.bridge.requests) → MovesOn order state.bridge.requests (changed_table (holds id) change state.bridge.requests)
    → HoldsBackIn order (changed_table (holds id) change state.bridge.requests)
    → KeepsOrder order (changed (record state.bridge { requests = changed_table (holds id) change state.bridge.requests; open_bursts = open_bursts }) (record state.memory { pending = after }) answer).state
answered_keeps order state id request change after open_bursts answer sound keeps known leaves new moves held =
    record {
      wrote = keeps.wrote;
      faults = keeps.faults;
      regions = keeps.regions;
      history =
          history_changed (writes order) (bytes_before order) keeps.wrote (memory_bytes state) state.bridge.requests (holds id) change request rising known.held same_number (λ n was. (moves.goes n).begun was) all_written keeps.history;
      held = held;
      live = all-change_found (IsInItsTurn order state.memory.bus_bytes keeps.wrote) (holds id) change state.bridge.requests.live request known.held in_order keeps.live;
      bursts = λ j.
          elim (cases_eq id j) [
            | inl same ↦ subst (λ k. AreOfHolder order state.memory.bus_bytes keeps.wrote (filter (is_of_id k) after) (holder k (change_first (holds id) change state.bridge.requests.live))) same own
            | inr other ↦ another j other
          ];
    }
  where
    rising : HaveNumbers state.bridge.requests.live
    rising = sound.bridge_laws.requests.flights.rising

    same_number : (change request).flight.number ≡ request.flight.number
    same_number = ap (λ (r : BridgedRequest). r.flight.number) leaves.becomes ∙ settled_number leaves.answered ∙ leaves.number

    in_order : IsInItsTurn order state.memory.bus_bytes keeps.wrote (change request)
    in_order = subst (IsInItsTurn order state.memory.bus_bytes keeps.wrote) (sym leaves.becomes) leaves.in_order

    found : find (is_numbered request.flight.number) (change_first (holds id) change state.bridge.requests.live) ≡ Some (change request)
    found = found_changed state.bridge.requests.live (holds id) change request rising known.held same_number

    all_written : (change request).flight.done ≡ true → (x : ℕ) → writes order request.flight.number x ≡ true → keeps.wrote request.flight.number x ≡ true
    all_written done =
        subst (λ n. (x : ℕ) → writes order n x ≡ true → keeps.wrote n x ≡ true) same_number
        (done_has_written order (changed_table (holds id) change state.bridge.requests) keeps.wrote (is_numbered request.flight.number) (change request) new keeps.regions found
        (subst (λ bus. IsInItsTurn order bus keeps.wrote (change request)) sound.bus in_order) done)

    own : AreOfHolder order state.memory.bus_bytes keeps.wrote (filter (is_of_id id) after) (holder id (change_first (holds id) change state.bridge.requests.live))
    own =
        of_answered order state.memory.bus_bytes keeps.wrote (filter (is_of_id id) after) id state.bridge.requests.live change request leaves.answered known.held leaves.becomes leaves.has_id leaves.sent
        (one_holder state.bridge sound.bridge_laws id) leaves.own

    another : (j : ℕ) → id ≢ j → AreOfHolder order state.memory.bus_bytes keeps.wrote (filter (is_of_id j) after) (holder j (change_first (holds id) change state.bridge.requests.live))
    another j other =
        subst (λ (ps : List Pending). AreOfHolder order state.memory.bus_bytes keeps.wrote ps (holder j (change_first (holds id) change state.bridge.requests.live))) (sym (leaves.others j other))
        (of_same_holder order state.memory.bus_bytes keeps.wrote (filter (is_of_id j) state.memory.pending) (holder j state.bridge.requests.live) (holder j (change_first (holds id) change state.bridge.requests.live))
        (sym (holder-other id j state.bridge.requests.live change other (leaves.held_by_others j))) (keeps.bursts j))

-- ---- which write it answers

pub record GivesB (memory : FreeMemory) (id : ℕ) (b : BBeat) : Type 0 where
  pub pending : Pending
  pub found : find (is_write_of id) memory.pending ≡ Some pending
  pub performed : list_any is_waiting pending.beats ≡ false
  pub is : b ≡ record { id = id; resp = write_response (standing_at memory.faults (start_of pending.burst)) }

pub gives_b : (memory : FreeMemory) (id : ℕ) (b : BBeat) → b_of memory id ≡ Some b → GivesB memory id b
gives_b memory id b gives = by_found (find (is_write_of id) memory.pending) refl gives
  where
    by_waiting : (pending : Pending) (waits : Bool) → find (is_write_of id) memory.pending ≡ Some pending → list_any is_waiting pending.beats ≡ waits
        → ◌≡◌ {A = Option BBeat} (if waits then None else Some (record { id = id; resp = write_response (standing_at memory.faults (start_of pending.burst)) })) (Some b) → GivesB memory id b
    by_waiting pending true found is none = absurd (cc (none))
    by_waiting pending false found is same = record { pending = pending; found = found; performed = is; is = sym (same_Some _ b same) }

    by_found : (found : Option Pending) → find (is_write_of id) memory.pending ≡ found → b_from memory.faults id found ≡ Some b → GivesB memory id b
    by_found None is none = absurd (cc (none))
    by_found (Some pending) is same = by_waiting pending (list_any is_waiting pending.beats) is refl same

-- ---- the step

module _ (order : Order) (state : WorldState) (id : ℕ) (pending : Pending) (sound : IsSoundWorld state) (keeps : KeepsOrder order state)
    (found : find (is_write_of id) state.memory.pending ≡ Some pending) (performed : list_any is_waiting pending.beats ≡ false) where
  abbrev resp : Resp
  resp = write_response (standing_at state.memory.faults (start_of pending.burst))

  abbrev write_table : RequestTable
  write_table = state.bridge.requests

  abbrev write_mine : List Pending
  write_mine = filter (is_of_id id) state.memory.pending

  write_found : find (is_write_of id) write_mine ≡ Some pending
  write_found = find-kept (is_write_of id) (is_of_id id) state.memory.pending (write_is_of id) ∙ found

  abbrev write_has : HasOpen order state keeps.wrote id
  write_has = has_open order state keeps.wrote id (is_write_of id) pending sound (keeps.bursts id) write_found

  abbrev write_request : BridgedRequest
  write_request = write_has.request

  abbrev write_first : IsFirstOf order state.memory.bus_bytes keeps.wrote write_request.flight.number id write_request.flight.writing true write_mine (outstanding write_request.flight) pending
  write_first =
      first_on order state.memory.bus_bytes keeps.wrote write_request.flight.number id true write_request.flight.writing write_mine (outstanding write_request.flight) pending (all_kept (is_of_id id) state.memory.pending)
      write_has.are write_found

  next : IsNextOf (planned write_request.flight) write_request.flight.answered write_request.flight.sent write_first.piece write_first.rest
  next = part-next (planned write_request.flight) write_request.flight.answered write_request.flight.sent write_first.piece write_first.rest write_first.outstanding

  write_of : IsInItsTurn order state.memory.bus_bytes keeps.wrote write_request
  write_of = all-find (IsInItsTurn order state.memory.bus_bytes keeps.wrote) (holds id) write_table.live write_request keeps.live write_has.known.held

  write_served : IsServed write_table.config order.regions write_request
  write_served = subst (λ (map : List Region). IsServed write_table.config map write_request) keeps.regions write_has.known.served

  sound_pending : IsSoundPending state.memory.bus_bytes pending
  sound_pending = all-find (IsSoundPending state.memory.bus_bytes) (is_write_of id) state.memory.pending pending sound.memory_laws.each found

  tells_page : resp ≡ write_response (standing_at order.faults write_first.piece.address)
  tells_page =
      ap (λ (faults : Faults). write_response (standing_at faults (start_of pending.burst))) keeps.faults
      ∙ ap (λ (burst : Burst). write_response (standing_at order.faults (start_of burst))) write_first.is.burst
      ∙ ap (λ (address : ℕ). write_response (standing_at order.faults address)) write_first.is.address

  abbrev answered : BridgedRequest
  answered = record write_request { flight = with_answered write_request.flight; gathering = after_b resp write_request.gathering }

  write_told : IsGathered order state.memory.bus_bytes (after_response resp write_request) (address_of order.regions (request_of write_request.message))
  write_told =
      subst (λ bus. IsGathered order bus (after_response resp write_request) (address_of order.regions (request_of write_request.message))) (sym sound.bus)
      (response_in_order order write_table.config (table_limits_of write_table.config) write_table.accepted write_request write_first.piece resp sound.bridge_laws.requests.config write_served write_has.known.sound write_has.known.live write_first.on next.at tells_page
      (subst (λ bus. IsGathered order bus write_request (address_of order.regions (request_of write_request.message))) sound.bus write_of.gathered))

  written : HasWritten order keeps.wrote answered
  written writing k n x piece below there one last holds_it writes_it =
      elim (cases_lt k write_request.flight.answered) [
        | inl before ↦ write_of.written writing k n x piece before there one last holds_it writes_it
        | inr past ↦
            let here : k ≡ write_request.flight.answered = omega (arith, below, past) in
            let same : piece ≡ write_first.piece = same_Some piece write_first.piece (sym there ∙ ap (slice_get (planned write_request.flight)) here ∙ next.at) in
            answered_written order state.memory.bus_bytes keeps.wrote write_request.flight.number pending piece n x sound_pending
            (subst (λ (p : Piece). IsWriteOf order state.memory.bus_bytes keeps.wrote write_request.flight.number pending p) (sym same) write_first.is) performed one last holds_it writes_it
      ]

  own : AreBurstsOf order state.memory.bus_bytes keeps.wrote write_request.flight.number write_request.flight.writing (filter (is_of_id id) (without_first (is_write_of id) state.memory.pending)) (outstanding answered.flight)
  own =
      subst (λ (ps : List Pending). AreBurstsOf order state.memory.bus_bytes keeps.wrote write_request.flight.number write_request.flight.writing ps (outstanding answered.flight))
      (sym (filter-without-kept (is_write_of id) (is_of_id id) state.memory.pending (write_is_of id)
      ∙ without_head (is_write_of id) write_mine pending write_first.later write_first.listed (find-passes (is_write_of id) state.memory.pending pending found)))
      (subst (λ (pieces : List Piece). AreBurstsOf order state.memory.bus_bytes keeps.wrote write_request.flight.number write_request.flight.writing write_first.later pieces) (sym next.less) write_first.others)

  write_leaves : LeavesInOrder order state keeps.wrote id write_request (after_response resp) (without_first (is_write_of id) state.memory.pending)
  write_leaves =
      record {
        answered = answered;
        becomes = refl;
        number = refl;
        has_id = write_has.known.has_id;
        sent = write_has.known.sound.sent;
        in_order = settled_in_order order state.memory.bus_bytes keeps.wrote answered write_of.asked write_of.unwritten write_of.unsent written write_told;
        own = own;
        others = λ j other. filter-without-other (is_of_id j) (is_write_of id) state.memory.pending (λ p is. of_one id j p other (write_is_of id p is));
        held_by_others = λ j r fails. settled-other j (record r { flight = with_answered r.flight; gathering = after_b resp r.gathering }) fails;
      }

  abbrev beat : BBeat
  beat = record { id = id; resp = resp }

  pub b_leaves : IsSoundWorld (answered_b state id (Some beat)).state → MovesOn order state.bridge.requests (answered_b state id (Some beat)).state.bridge.requests → HoldsBackIn order (answered_b state id (Some beat)).state.bridge.requests → KeepsOrder order (answered_b state id (Some beat)).state
  b_leaves new moves held =
      answered_keeps order state id write_request (after_response resp) (without_first (is_write_of id) state.memory.pending) (after_b_beat state.bridge beat).open_bursts (B beat) sound keeps write_has.known write_leaves
      new.bridge_laws.requests moves held

-- a B
pub b_keeps : (order : Order) (state : WorldState) (id : ℕ) (b : BBeat) → b_of state.memory id ≡ Some b → IsSoundWorld state → (keeps : KeepsOrder order state)
    → IsSoundWorld (answered_b state id (Some b)).state → MovesOn order state.bridge.requests (answered_b state id (Some b)).state.bridge.requests → HoldsBackIn order (answered_b state id (Some b)).state.bridge.requests → KeepsOrder order (answered_b state id (Some b)).state
b_keeps order state id b gives sound keeps =
    let given = gives_b state.memory id b gives in
    subst
    (λ (beat : BBeat). IsSoundWorld (answered_b state id (Some beat)).state → MovesOn order state.bridge.requests (answered_b state id (Some beat)).state.bridge.requests → HoldsBackIn order (answered_b state id (Some beat)).state.bridge.requests → KeepsOrder order (answered_b state id (Some beat)).state)
    (sym given.is) (b_leaves order state id given.pending sound keeps given.found given.performed)

-- ---- which read it answers

pub record GivesR (memory : FreeMemory) (id : ℕ) (r : RBeat) : Type 0 where
  pub pending : Pending
  pub payload : ℕ
  pub resp : Resp
  pub found : find (is_read_of id) memory.pending ≡ Some pending
  pub captured : slice_get pending.beats pending.answered ≡ Some (Captured payload resp)
  pub is : r ≡ record { id = id; payload = payload; resp = resp; last = gives_last pending }

pub gives_r : (memory : FreeMemory) (id : ℕ) (r : RBeat) → r_of memory id ≡ Some r → GivesR memory id r
gives_r memory id r gives = by_found (find (is_read_of id) memory.pending) refl gives
  where
    by_state : (pending : Pending) (there : Option BeatState) → find (is_read_of id) memory.pending ≡ Some pending → beat_at pending pending.answered ≡ there → r_with id pending there ≡ Some r → GivesR memory id r
    by_state pending (Some (Captured payload resp)) found is same =
        record { pending = pending; payload = payload; resp = resp; found = found; captured = is; is = sym (same_Some _ r same) }
    by_state pending _ found is none = absurd (cc (none))

    by_found : (found : Option Pending) → find (is_read_of id) memory.pending ≡ found → r_from id found ≡ Some r → GivesR memory id r
    by_found None is none = absurd (cc (none))
    by_found (Some pending) is same = by_state pending (beat_at pending pending.answered) is refl same

-- ---- as the port knows it

abbrev reads_open : List Pending → List OpenRead
reads_open pending = filter_map (λ p. open_read_in p.answered p.burst) pending

pub find_known : (id : ℕ) (pending : List Pending) (p : Pending) (ar : ArBeat) → find (is_read_of id) pending ≡ Some p → p.burst ≡ ReadBurst ar
    → find (read_of_id id) (reads_open pending) ≡ Some (record { ar = ar; came = p.answered })
find_known id [] p ar found is = absurd (cc (found))
find_known id (q ∷ qs) p ar found is = by_burst q.burst found (λ later. find_known id qs p ar later is)
  where
    by_test : (b : Bool) (other : ArBeat) → (if b then Some (record q { burst = ReadBurst other }) else find (is_read_of id) qs) ≡ Some p
        → (find (is_read_of id) qs ≡ Some p → find (read_of_id id) (reads_open qs) ≡ Some (record { ar = ar; came = p.answered }))
        → ◌≡◌ {A = Option OpenRead} (if b then Some (record { ar = other; came = q.answered }) else find (read_of_id id) (reads_open qs)) (Some (record { ar = ar; came = p.answered }))
    by_test b other here rest = grind (arith, here, rest)

    by_burst : (burst : Burst) → find (is_read_of id) (record q { burst = burst } ∷ qs) ≡ Some p
        → (find (is_read_of id) qs ≡ Some p → find (read_of_id id) (reads_open qs) ≡ Some (record { ar = ar; came = p.answered }))
        → find (read_of_id id) (reads_open (record q { burst = burst } ∷ qs)) ≡ Some (record { ar = ar; came = p.answered })
    by_burst burst later rest = grind (arith, later, rest)

one_more : (n m : ℕ) → (n + 1 == m + 1) ≡ (n == m)
one_more n m = grind (arith, nat_tests)

-- ---- the step

module _ (order : Order) (state : WorldState) (id : ℕ) (pending : Pending) (payload : ℕ) (resp : Resp) (sound : IsSoundWorld state) (keeps : KeepsOrder order state)
    (found : find (is_read_of id) state.memory.pending ≡ Some pending) (captured : slice_get pending.beats pending.answered ≡ Some (Captured payload resp)) where
  abbrev table : RequestTable
  table = state.bridge.requests

  abbrev r : RBeat
  r = record { id = id; payload = payload; resp = resp; last = gives_last pending }

  abbrev mine : List Pending
  mine = filter (is_of_id id) state.memory.pending

  found_mine : find (is_read_of id) mine ≡ Some pending
  found_mine = find-kept (is_read_of id) (is_of_id id) state.memory.pending (read_is_of id) ∙ found

  abbrev has : HasOpen order state keeps.wrote id
  has = has_open order state keeps.wrote id (is_read_of id) pending sound (keeps.bursts id) found_mine

  abbrev request : BridgedRequest
  request = has.request

  abbrev first : IsFirstOf order state.memory.bus_bytes keeps.wrote request.flight.number id request.flight.writing false mine (outstanding request.flight) pending
  first =
      first_on order state.memory.bus_bytes keeps.wrote request.flight.number id false request.flight.writing mine (outstanding request.flight) pending (all_kept (is_of_id id) state.memory.pending)
      has.are found_mine

  abbrev open_one : OpenRead
  open_one = record { ar = first.is.ar; came = pending.answered }

  known_open : find (read_of_id id) state.bridge.open_bursts.reads ≡ Some open_one
  known_open =
      ap (λ (open_bursts : OpenBursts). find (read_of_id id) open_bursts.reads) sound.outstanding
      ∙ find_known id state.memory.pending pending first.is.ar found first.is.burst

  opened : open_one ≡ open_read id (came_of_next request) first.piece
  opened =
      let listed = sym (filter-found (read_of_id id) state.bridge.open_bursts.reads open_one known_open)
      ∙ (sound.bridge_laws.linked id).reads
      ∙ ap (reads_held id) has.known.held
      ∙ reads_are id request.flight.writing (came_of_next request) (outstanding request.flight) (first.piece ∷ first.rest) first.on first.outstanding in
      cc (listed)

  count : pending.answered ≡ came_of_next request
  count = ap (λ (read : OpenRead). read.came) opened

  last_is : gives_last pending ≡ (came_of_next request == first.piece.len)
  last_is =
      ap (λ (burst : Burst). pending.answered + 1 == transfers_in burst) first.is.burst
      ∙ ap (λ (len : ℕ). pending.answered + 1 == len + 1) first.is.len
      ∙ one_more pending.answered first.piece.len
      ∙ ap (λ (n : ℕ). n == first.piece.len) count

  reader : IsReader state.bridge r request first.piece first.rest
  reader = reader_known state.bridge r request first.piece first.rest sound.bridge_laws has.known first.on first.outstanding (known_open ∙ ap (λ (read : OpenRead). Some read) opened) last_is

  reading : IsReading request first.piece (came_of_next request)
  reading =
      record {
        within = reader.next.within;
        live = has.known.live;
        reads = first.on;
        burst = reader.next.at;
        came = omega (arith, has.known.served.came);
        few = reader.few;
      }

  of : IsInItsTurn order state.memory.bus_bytes keeps.wrote request
  of = all-find (IsInItsTurn order state.memory.bus_bytes keeps.wrote) (holds id) table.live request keeps.live has.known.held

  served : IsServed table.config order.regions request
  served = subst (λ (map : List Region). IsServed table.config map request) keeps.regions has.known.served

  tells : TellsSerially order request.flight.number table.config.axi_bytes first.piece (came_of_next request + 1) payload resp
  tells =
      subst (λ bus. TellsSerially order request.flight.number bus first.piece (came_of_next request + 1) payload resp) sound.bus
      (subst (λ n. TellsSerially order request.flight.number state.memory.bus_bytes first.piece (n + 1) payload resp) count (first.is.tells pending.answered payload resp captured))

  told : IsGathered order state.memory.bus_bytes (after_read table.config.axi_bytes r request) (address_of order.regions (request_of request.message))
  told =
      subst (λ bus. IsGathered order bus (after_read table.config.axi_bytes r request) (address_of order.regions (request_of request.message))) (sym sound.bus)
      (read_in_order order table.config (table_limits_of table.config) table.accepted request first.piece (came_of_next request) r sound.bridge_laws.requests.config served has.known.sound reading last_is
      reader.place tells
      (subst (λ bus. IsGathered order bus request (address_of order.regions (request_of request.message))) sound.bus of.gathered))

  told_settled : (after : BridgedRequest) → after_read table.config.axi_bytes r request ≡ settled after
      → IsGathered order state.memory.bus_bytes (settled after) (address_of order.regions (request_of request.message))
  told_settled after is = subst (λ (q : BridgedRequest). IsGathered order state.memory.bus_bytes q (address_of order.regions (request_of request.message))) is told

  -- the last beat of a burst
  abbrev closed : BridgedRequest
  closed = closed_by table.config.axi_bytes r request

  closed_written : HasWritten order keeps.wrote closed
  closed_written writing = absurd (cc (writing, first.on))

  closed_own : AreBurstsOf order state.memory.bus_bytes keeps.wrote request.flight.number request.flight.writing (filter (is_of_id id) (without_first (is_read_of id) state.memory.pending)) (outstanding closed.flight)
  closed_own =
      subst (λ (ps : List Pending). AreBurstsOf order state.memory.bus_bytes keeps.wrote request.flight.number request.flight.writing ps (outstanding closed.flight))
      (sym (filter-without-kept (is_read_of id) (is_of_id id) state.memory.pending (read_is_of id)
      ∙ without_head (is_read_of id) mine pending first.later first.listed (find-passes (is_read_of id) state.memory.pending pending found)))
      (subst (λ (pieces : List Piece). AreBurstsOf order state.memory.bus_bytes keeps.wrote request.flight.number request.flight.writing first.later pieces) (sym reader.next.less) first.others)

  leaves_closed : gives_last pending ≡ true → LeavesInOrder order state keeps.wrote id request (after_read table.config.axi_bytes r) (without_first (is_read_of id) state.memory.pending)
  leaves_closed is =
      let becomes = after_read-last table.config.axi_bytes r request is in
      record {
        answered = closed;
        becomes = becomes;
        number = refl;
        has_id = has.known.has_id;
        sent = has.known.sound.sent;
        in_order =
            settled_in_order order state.memory.bus_bytes keeps.wrote closed of.asked of.unwritten of.unsent closed_written (told_settled closed becomes);
        own = closed_own;
        others = λ j other. filter-without-other (is_of_id j) (is_read_of id) state.memory.pending (λ p passes. of_one id j p other (read_is_of id p passes));
        held_by_others = λ j q fails. after_read-other table.config.axi_bytes r j q fails;
      }

  -- an earlier one
  abbrev counted : BridgedRequest
  counted = counted_by table.config.axi_bytes r request

  still_read : IsBurstOf order state.memory.bus_bytes keeps.wrote request.flight.number request.flight.writing (with_answer pending) first.piece
  still_read =
      let read : IsReadOf order state.memory.bus_bytes request.flight.number (with_answer pending) first.piece =
      record { ar = first.is.ar; burst = first.is.burst; address = first.is.address; size = first.is.size; len = first.is.len; tells = first.is.tells } in
      subst (λ w. IsBurstOf order state.memory.bus_bytes keeps.wrote request.flight.number w (with_answer pending) first.piece) (sym first.on) read

  passes_mine : is_of_id id pending ≡ true
  passes_mine = read_is_of id pending (find-passes (is_read_of id) state.memory.pending pending found)

  counted_own : AreBurstsOf order state.memory.bus_bytes keeps.wrote request.flight.number request.flight.writing (filter (is_of_id id) (change_first (is_read_of id) with_answer state.memory.pending)) (outstanding counted.flight)
  counted_own =
      subst (λ (ps : List Pending). AreBurstsOf order state.memory.bus_bytes keeps.wrote request.flight.number request.flight.writing ps (outstanding counted.flight))
      (sym (filter-change-kept (is_read_of id) (is_of_id id) with_answer state.memory.pending pending found passes_mine passes_mine
      ∙ change_head (is_read_of id) with_answer mine pending first.later first.listed (find-passes (is_read_of id) state.memory.pending pending found)))
      (subst (λ (pieces : List Piece). AreBurstsOf order state.memory.bus_bytes keeps.wrote request.flight.number request.flight.writing (with_answer pending ∷ first.later) pieces) (sym first.outstanding) (still_read, first.others))

  leaves_counted : gives_last pending ≡ false → LeavesInOrder order state keeps.wrote id request (after_read table.config.axi_bytes r) (change_first (is_read_of id) with_answer state.memory.pending)
  leaves_counted is =
      let becomes = after_read-more table.config.axi_bytes r request is in
      record {
        answered = counted;
        becomes = becomes;
        number = refl;
        has_id = has.known.has_id;
        sent = has.known.sound.sent;
        in_order =
            settled_in_order order state.memory.bus_bytes keeps.wrote counted of.asked of.unwritten of.unsent of.written (told_settled counted becomes);
        own = counted_own;
        others = λ j other.
            let fails = of_one id j pending other passes_mine in
            filter-change-other (is_read_of id) (is_of_id j) with_answer state.memory.pending pending found fails fails;
        held_by_others = λ j q fails. after_read-other table.config.axi_bytes r j q fails;
      }

  leaves : LeavesInOrder order state keeps.wrote id request (after_read table.config.axi_bytes r) (pending_after_r id state.memory.pending)
  leaves =
      elim (cases_Bool (gives_last pending)) [
        | inl last ↦
            subst (LeavesInOrder order state keeps.wrote id request (after_read table.config.axi_bytes r)) (sym (pending_after_r-last id state.memory.pending pending found last)) (leaves_closed last)
        | inr more ↦
            subst (LeavesInOrder order state keeps.wrote id request (after_read table.config.axi_bytes r)) (sym (pending_after_r-more id state.memory.pending pending found more)) (leaves_counted more)
      ]

  pub r_leaves : IsSoundWorld (answered_r state id (Some r)).state → MovesOn order state.bridge.requests (answered_r state id (Some r)).state.bridge.requests → HoldsBackIn order (answered_r state id (Some r)).state.bridge.requests → KeepsOrder order (answered_r state id (Some r)).state
  r_leaves new moves held =
      answered_keeps order state id request (after_read table.config.axi_bytes r) (pending_after_r id state.memory.pending) (after_r_beat state.bridge r).open_bursts (R r) sound keeps has.known leaves
      new.bridge_laws.requests moves held

-- an R
pub r_keeps : (order : Order) (state : WorldState) (id : ℕ) (r : RBeat) → r_of state.memory id ≡ Some r → IsSoundWorld state → (keeps : KeepsOrder order state)
    → IsSoundWorld (answered_r state id (Some r)).state → MovesOn order state.bridge.requests (answered_r state id (Some r)).state.bridge.requests → HoldsBackIn order (answered_r state id (Some r)).state.bridge.requests → KeepsOrder order (answered_r state id (Some r)).state
r_keeps order state id r gives sound keeps =
    let given = gives_r state.memory id r gives in
    subst
    (λ (beat : RBeat). IsSoundWorld (answered_r state id (Some beat)).state → MovesOn order state.bridge.requests (answered_r state id (Some beat)).state.bridge.requests → HoldsBackIn order (answered_r state id (Some beat)).state.bridge.requests → KeepsOrder order (answered_r state id (Some beat)).state)
    (sym given.is) (r_leaves order state id given.pending given.payload given.resp sound keeps given.found given.captured)
