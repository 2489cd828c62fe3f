-- What the other events do keeps the order. A request that is accepted has sent, written and gathered nothing; one whose reply is taken is done,
-- so that it has no open burst; a burst that is sent is one more of its request, under the ID that this holds; a beat that is performed stores
-- what its request leaves, or captures what it finds. It knows the request that each is of; what bursts do to single bytes is hidden.
use Rattle.std.specs.List.{filter, find, AllByRecursion, slice_get}
use Rattle.std.proofs.Common.{◌≡◌, ◌≢◌, ℕ, ◌+◌, nat_lt, Bool, true, false, ◌&&◌, [], ◌∷◌, ◌++◌, Option, Some, refl, ap, sym, ◌∙◌, arith, inl, inr, ◌⊎◌, ◌==◌, ◌||◌, None, is_some, List, subst, ◌≤◌, unwrap_or, IfSome}
use Rattle.std.proofs.lemmas.Bool.{cases_eq, ne_eqb, and_parts, eq-eqb, eqb-true, and_right}
use Rattle.std.proofs.lemmas.Bool.Decides.{nat_tests}
use Rattle.std.proofs.lemmas.List.{append-nil}
use Rattle.std.proofs.lemmas.List.Elements.{filter-append}
use Rattle.bus_words.specs.Places.{change_first}
use Rattle.bus_words.proofs.PlaceChanges.{all-append, all-without_first, all-find, find-passes}
use Rattle.bus_words.proofs.FoundChanges.{find-append-fails, find-changed-found, find-changed-unseen, find-without_first}
use Rattle.tl_messages.specs.Requests.{HeldMessage, request_of}
use Rattle.tl_messages.specs.declared.ABeat.{ABeat}
use Rattle.axi_beats.specs.Bursts.{Burst}
use Rattle.axi_beats.specs.Transfers.{transfer_has}
use Rattle.axi_checker.specs.Rules.{id_of}
use Rattle.burst_plan.specs.declared.Piece.{Piece}
use Rattle.burst_plan.specs.declared.Region.{Region}
use Rattle.flight_table.specs.Laws.{IsSoundRequest}
use Rattle.flight_table.specs.LiveRequests.{reads_then_writes, planned}
use Rattle.flight_table.specs.Order.{is_id}
use Rattle.bridge_core.specs.HeldRequests.{BridgedRequest, RequestTable, holder, holds, is_numbered, newly_live, with_request, is_done_for, without_done, after_sending, may_send, table_limits_of}
use Rattle.burst_plan.specs.PageMap.{address_of}
use Rattle.bridge_core.specs.Bridge.{message_with, after_sent}
use Rattle.bridge_core.specs.Laws.{outstanding, IsServed}
use Rattle.bridge_core.specs.Sending.{Sending, burst_of_piece}
use Rattle.bridge_core.proofs.SendingLinks.{no_holder, sound_requests}
use Rattle.bridge_core.proofs.NextSending.{IsNext}
use Rattle.bridge_core.proofs.SentLinks.{IsTakenBy, found_by_number, holds_no_other, outstanding_sent, taken_by}
use Rattle.bridge_core.proofs.ServedRequests.{all-change_found}
use Rattle.subordinate.specs.FreeMemory.{Pending, newly_pending, FreeMemory, beat_after, beat_at, has_serial, memory_after, performed, with_beat, with_performed, reads_as, writes_as}
use Rattle.subordinate.specs.Laws.{IsSoundPending}
use Rattle.subordinate.specs.Pages.{byte_at_address}
use Rattle.subordinate.specs.declared.BeatState.TheVariants.{Waiting}
use Rattle.subordinate.proofs.PerformedBeats.{performs_done}
use Rattle.world.specs.World.{WorldState, changed, taken}
use Rattle.world.specs.declared.Answer.TheVariants.{Accepted, More, Done}
use Rattle.world.specs.Laws.{IsSoundWorld}
use Rattle.world.proofs.Events.{after_accepted, after_begun, sent_from}
use Rattle.world_run.specs.InOrder.{IsHistory, IsInItsTurn, KeepsOrder, is_finished, is_of_id, is_over, memory_bytes, started, has_begun, AreBurstsOf, AreOfHolder, IsBurstOf, IsGathered}
use Rattle.meaning.specs.Meaning.{Bytes}
use Rattle.world_run.specs.Serial.{Order, asked, bytes_before, writes, byte_left, touches}
use Rattle.world_run.proofs.gathered.GatheredSteps.{gathered-sent, gathered-start}
use Rattle.world_run.proofs.HeldSteps.{HaveNumbers, HoldsBackIn, MovesOn, found_without, history_changed, numbered_once, unaccepted}
use Rattle.world_run.proofs.History.{history_moves, found_here, history_stores, store_adds, store_keeps, with_written}
use Rattle.world_run.proofs.bursts.PerformedBytes.{IsOneOf, LeavesBurst, LeavesOthers, PerformsSerially, beat_within, bursts_append, in_order_more, of_holder_same, of_one, of_same_holder, open_one, performs_serially, stores_by}
use Rattle.world_run.proofs.bursts.BurstBytes.{HasOpen, IsGoingOn, burst_of_next, going_on, going_on-place, has_open, part_at, planned_at, same_transfer, transfer_touches, writes_in_range}
use Rattle.world_run.proofs.BytesLeft.{FindsSerially, left_alone, message_touches}
use Rattle.world_run.proofs.gathered.GatheredAnswers.{finds_writing}
use Rattle.world_run.proofs.ListChanges.{all_both, filter-change-kept, filter-change-other, find-filter}
use Rattle.subordinate.specs.declared.Performed.TheVariants as perform

-- ---- an offered beat

-- a beat that doesn't end a message
pub begins_keeps : (order : Order) (state : WorldState) (client : ℕ) (beat : ABeat) → KeepsOrder order state → KeepsOrder order (changed (after_begun state.bridge client beat) state.memory More).state
begins_keeps order state client beat keeps =
    record { wrote = keeps.wrote; faults = keeps.faults; regions = keeps.regions; history = keeps.history; held = keeps.held; live = keeps.live; bursts = keeps.bursts }

-- ---- a request is accepted

-- it has written nothing
unwritten_yet : (order : Order) (table : RequestTable) (wrote : ℕ → ℕ → Bool) (bytes : Bytes) (x : ℕ) → IsHistory (writes order) (bytes_before order) (started table) (is_finished table) wrote bytes
    → wrote table.accepted x ≡ false
unwritten_yet order table wrote bytes x history = grind (arith, history)

-- the others are finished where they were
ended_before : (table : RequestTable) (message : HeldMessage) (n : ℕ) → table.accepted ≢ n → is_finished (with_request message table) n ≡ true → is_finished table n ≡ true
ended_before table message n other over =
    sym (ap (λ b. b && is_over (find (is_numbered n) (table.live ++ newly_live table message ∷ []))) counted
    ∙ ap (λ (o : Option BridgedRequest). nat_lt n table.accepted && is_over o) (find-append-fails (is_numbered n) table.live (newly_live table message) (ne_eqb table.accepted n other)))
    ∙ over
  where
    counted : nat_lt n (table.accepted + 1) ≡ nat_lt n table.accepted
    counted = grind (arith, nat_tests, other)

pub accept_keeps : (order : Order) (state : WorldState) (client : ℕ) (beat : ABeat) → asked order state.bridge.requests.accepted ≡ Some (request_of (message_with state.bridge client beat)) → (keeps : KeepsOrder order state)
    → MovesOn order state.bridge.requests (after_accepted state.bridge client beat).requests → HoldsBackIn order (after_accepted state.bridge client beat).requests
    → KeepsOrder order (changed (after_accepted state.bridge client beat) state.memory (Accepted state.bridge.requests.accepted)).state
accept_keeps order state client beat foreseen keeps moves held =
    record {
      wrote = keeps.wrote;
      faults = keeps.faults;
      regions = keeps.regions;
      history =
          history_moves (writes order) (bytes_before order) (started state.bridge.requests) (is_finished state.bridge.requests) (started (with_request message state.bridge.requests))
          (is_finished (with_request message state.bridge.requests)) keeps.wrote (memory_bytes state) keeps.history (λ n was. (moves.goes n).begun was) ends;
      held = held;
      live = all-append (IsInItsTurn order state.memory.bus_bytes keeps.wrote) state.bridge.requests.live (newly_live state.bridge.requests message) keeps.live in_order;
      bursts = λ id.
          of_same_holder order state.memory.bus_bytes keeps.wrote (filter (is_of_id id) state.memory.pending) (holder id state.bridge.requests.live)
          (holder id (state.bridge.requests.live ++ newly_live state.bridge.requests message ∷ []))
          (sym (find-append-fails (holds id) state.bridge.requests.live (newly_live state.bridge.requests message) (no_holder id (newly_live state.bridge.requests message) refl))) (keeps.bursts id);
    }
  where
    message : HeldMessage
    message = message_with state.bridge client beat

    in_order : IsInItsTurn order state.memory.bus_bytes keeps.wrote (newly_live state.bridge.requests (message_with state.bridge client beat))
    in_order =
        record {
          asked = foreseen;
          unwritten = λ isnt x. unwritten_yet order state.bridge.requests keeps.wrote (memory_bytes state) x keeps.history;
          unsent = λ writing k n x piece past there within has. unwritten_yet order state.bridge.requests keeps.wrote (memory_bytes state) x keeps.history;
          written = λ writing k n x piece below there first last has writes_it. absurd (omega (arith, below));
          gathered = gathered-start order state.bridge.requests state.memory.bus_bytes (message_with state.bridge client beat) keeps.regions;
        }

    ends : (n : ℕ) → is_finished (with_request (message_with state.bridge client beat) state.bridge.requests) n ≡ true
        → (is_finished state.bridge.requests n ≡ true) ⊎ ((x : ℕ) → writes order n x ≡ true → keeps.wrote n x ≡ true)
    ends n over =
        elim (cases_eq state.bridge.requests.accepted n) [
          | inl its ↦
              elim ((moves.goes n).before over) [
                | inl begun ↦
                    let never = unaccepted state.bridge.requests n (omega (arith, its)) in
                    absurd (cc (begun, never))
                | inr idle ↦ inr (λ x writes_it. let none = (idle x).1 in absurd (cc (none, writes_it)))
              ]
          | inr other ↦ inl (ended_before state.bridge.requests (message_with state.bridge client beat) n other over)
        ]

-- ---- a reply is taken

-- the one that left was done
done_is : (client : ℕ) (request : BridgedRequest) → is_done_for client request ≡ true → request.flight.done ≡ true
done_is client request is = (and_parts (request.flight.client == client) request.flight.done is).1

-- a test of the request of a number, which has left where it was done
same_test : (table : RequestTable) (client n : ℕ) (test : Option BridgedRequest → Bool) → HaveNumbers table.live → ((request : BridgedRequest) → request.flight.done ≡ true → test (Some request) ≡ true) → test None ≡ true
    → test (find (is_numbered n) (without_done client table).live) ≡ test (find (is_numbered n) table.live)
same_test table client n test sound done_passes none_passes = grind (arith, nat_tests, found_without, done_is, sound, done_passes, none_passes)

pub take_keeps : (order : Order) (state : WorldState) (client : ℕ) (request : BridgedRequest) → IsSoundWorld state → KeepsOrder order state → HoldsBackIn order (without_done client state.bridge.requests)
    → KeepsOrder order (taken state client (Some request)).state
take_keeps order state client request sound keeps held =
    record {
      wrote = keeps.wrote;
      faults = keeps.faults;
      regions = keeps.regions;
      history =
          history_moves (writes order) (bytes_before order) (started state.bridge.requests) (is_finished state.bridge.requests) (started (without_done client state.bridge.requests)) (is_finished (without_done client state.bridge.requests)) keeps.wrote (memory_bytes state) keeps.history
          (λ n was. ap (λ b. nat_lt n state.bridge.requests.accepted && b) (same_test state.bridge.requests client n has_begun rising (λ r done. begun_last (is_some r.flight.id) r.flight.done done) refl) ∙ was)
          (λ n over. inl (ap (λ b. nat_lt n state.bridge.requests.accepted && b) (sym (same_test state.bridge.requests client n is_over rising (λ r done. done) refl)) ∙ over));
      held = held;
      live = all-without_first (IsInItsTurn order state.memory.bus_bytes keeps.wrote) (is_done_for client) state.bridge.requests.live keeps.live;
      bursts = λ id.
          of_same_holder order state.memory.bus_bytes keeps.wrote (filter (is_of_id id) state.memory.pending) (holder id state.bridge.requests.live) (holder id (without_done client state.bridge.requests).live) (sym (same_holder id)) (keeps.bursts id);
    }
  where
    rising : HaveNumbers state.bridge.requests.live
    rising = sound.bridge_laws.requests.flights.rising

    begun_last : (a b : Bool) → b ≡ true → (a || b) ≡ true
    begun_last a b is = grind (arith, is)

    same_holder : (id : ℕ) → holder id (without_done client state.bridge.requests).live ≡ holder id state.bridge.requests.live
    same_holder id =
        find-without_first (λ (r : BridgedRequest). IsSoundRequest (table_limits_of state.bridge.requests.config) state.bridge.requests.accepted r.flight) (holds id) (is_done_for client) state.bridge.requests.live
        (λ r each done. no_holder id r (each.freed (done_is client r done))) (sound_requests state.bridge.requests sound.bridge_laws.requests)

-- ---- the list of open bursts

filter_more : (test : Pending → Bool) (pending : List Pending) (one : Pending) → test one ≡ true → filter test (pending ++ one ∷ []) ≡ filter test pending ++ one ∷ []
filter_more test pending one is = filter-append test pending (one ∷ []) ∙ rw is refl

filter_no_more : (test : Pending → Bool) (pending : List Pending) (one : Pending) → test one ≡ false → filter test (pending ++ one ∷ []) ≡ filter test pending
filter_no_more test pending one is = filter-append test pending (one ∷ []) ∙ rw is (append-nil (filter test pending))

-- ---- a burst is sent

module _ (order : Order) (state : WorldState) (sending : Sending) (sent : IsNext state.bridge.requests sending) (sound : IsSoundWorld state) (keeps : KeepsOrder order state) where
  abbrev sent_table : RequestTable
  sent_table = state.bridge.requests

  abbrev request : BridgedRequest
  request = sending.request

  abbrev sent_number : ℕ
  sent_number = request.flight.number

  sent_of : IsInItsTurn order state.memory.bus_bytes keeps.wrote request
  sent_of = all-find (IsInItsTurn order state.memory.bus_bytes keeps.wrote) (may_send sent_table) sent_table.live request keeps.live sent.found

  served : IsServed sent_table.config order.regions request
  served =
      subst (λ (map : List Region). IsServed sent_table.config map request) keeps.regions
      (all-find (IsServed sent_table.config sent_table.regions) (may_send sent_table) sent_table.live request sound.bridge_laws.requests.served sent.found)

  each : IsSoundRequest (table_limits_of sent_table.config) sent_table.accepted request.flight
  each =
      all-find (λ (r : BridgedRequest). IsSoundRequest (table_limits_of sent_table.config) sent_table.accepted r.flight) (may_send sent_table) sent_table.live request (sound_requests sent_table sound.bridge_laws.requests) sent.found

  -- an atomic that writes does so with the value that it finds
  sent_finds : reads_then_writes request.flight ≡ true → request.flight.writing ≡ true → FindsSerially order request sent.range.address
  sent_finds atomic writes =
      finds_writing order sent_table.config (table_limits_of sent_table.config) sent_table.accepted request sent.range.address sound.bridge_laws.requests.config served each sent.ready.undone atomic
      writes
      (planned_at sent_table.config order.regions request sent.range sound.bridge_laws.requests.config served.pages served sent.plan).address
      (subst (λ bus. IsGathered order bus request (address_of order.regions (request_of request.message))) sound.bus sent_of.gathered)

  abbrev sent_one : Pending
  sent_one = newly_pending state.memory.sent sending.burst

  -- so the burst puts what its request leaves
  new_burst : IsBurstOf order state.memory.bus_bytes keeps.wrote sent_number request.flight.writing sent_one sent.piece
  new_burst =
      subst (λ (burst : Burst). IsBurstOf order state.memory.bus_bytes keeps.wrote sent_number request.flight.writing (newly_pending state.memory.sent burst) sent.piece) (sym sent.burst)
      (subst (λ bus. IsBurstOf order bus keeps.wrote sent_number request.flight.writing (newly_pending state.memory.sent (burst_of_piece sending.id request sent.range sent.piece)) sent.piece) (sym sound.bus)
      (burst_of_next order sent_table.config keeps.wrote state.memory.sent sending.id request sent.range sent.piece sound.bridge_laws.requests.config served.pages served sent_of.asked sent.ready.undone sent.plan
      sent.next sent_finds (λ writing n x within has. sent_of.unsent writing request.flight.sent n x sent.piece (omega arith) sent.next within has)))

  -- the request of the number has one burst more
  by_number : find (is_numbered sent_number) sent_table.live ≡ Some request
  by_number = found_by_number (may_send sent_table) sent_table.live request sound.bridge_laws.requests.flights.rising sent.found

  abbrev after : List BridgedRequest
  after = (after_sent state.bridge sending).requests.live

  in_order : IsInItsTurn order state.memory.bus_bytes keeps.wrote (after_sending sending.id request)
  in_order =
      record {
        asked = sent_of.asked;
        unwritten = sent_of.unwritten;
        unsent = λ writing k n x piece past there within has. sent_of.unsent writing k n x piece (omega (arith, past)) there within has;
        written = sent_of.written;
        gathered = gathered-sent order state.memory.bus_bytes sending.id request (address_of order.regions (request_of request.message)) sent_of.gathered;
      }

  -- the open bursts of its ID
  one_of_id : (id : ℕ) → is_of_id id sent_one ≡ (sending.id == id)
  one_of_id id = grind arith

  mine_before : IsTakenBy sending.id sent_table.live request
      → AreBurstsOf order state.memory.bus_bytes keeps.wrote sent_number request.flight.writing (filter (is_of_id sending.id) state.memory.pending) (outstanding request.flight)
  mine_before taken =
      let held = of_same_holder order state.memory.bus_bytes keeps.wrote (filter (is_of_id sending.id) state.memory.pending) (holder sending.id sent_table.live) in
      elim taken.held [
        | inl no_one ↦ rw (held None no_one (keeps.bursts sending.id), taken.free no_one) tt
        | inr its ↦ held (Some request) its (keeps.bursts sending.id)
      ]

  sent_own_bursts : AreOfHolder order state.memory.bus_bytes keeps.wrote (filter (is_of_id sending.id) (state.memory.pending ++ sent_one ∷ [])) (holder sending.id after)
  sent_own_bursts =
      let taken = taken_by sent_table sending sound.bridge_laws.requests sent in
      let held = find-changed-found (holds sending.id) (is_numbered sent_number) (after_sending sending.id) sent_table.live request by_number (eq-eqb sending.id sending.id refl) taken.held in
      let mine = filter (is_of_id sending.id) state.memory.pending in
      of_same_holder order state.memory.bus_bytes keeps.wrote (filter (is_of_id sending.id) (state.memory.pending ++ sent_one ∷ [])) (Some (after_sending sending.id request)) (holder sending.id after) (sym held)
      (subst (λ (ps : List Pending). AreBurstsOf order state.memory.bus_bytes keeps.wrote sent_number request.flight.writing ps (outstanding (after_sending sending.id request).flight))
      (sym (filter_more (is_of_id sending.id) state.memory.pending sent_one (one_of_id sending.id ∙ eq-eqb sending.id sending.id refl)))
      (subst (λ (pieces : List Piece). AreBurstsOf order state.memory.bus_bytes keeps.wrote sent_number request.flight.writing (mine ++ sent_one ∷ []) pieces)
      (sym (outstanding_sent sending.id request sent.piece each.answered sent.next))
      (bursts_append order state.memory.bus_bytes keeps.wrote sent_number request.flight.writing mine (outstanding request.flight) sent_one sent.piece (mine_before taken) new_burst)))

  -- and those of the others
  sent_other_bursts : (id : ℕ) → (sending.id == id) ≡ false → AreOfHolder order state.memory.bus_bytes keeps.wrote (filter (is_of_id id) (state.memory.pending ++ sent_one ∷ [])) (holder id after)
  sent_other_bursts id other =
      subst (λ (ps : List Pending). AreOfHolder order state.memory.bus_bytes keeps.wrote ps (holder id after)) (sym (filter_no_more (is_of_id id) state.memory.pending sent_one (one_of_id id ∙ other)))
      (of_same_holder order state.memory.bus_bytes keeps.wrote (filter (is_of_id id) state.memory.pending) (holder id sent_table.live) (holder id after)
      (sym (find-changed-unseen (holds id) (is_numbered sent_number) (after_sending sending.id) sent_table.live request by_number (holds_no_other sent_table sending id sent other) other))
      (keeps.bursts id))

  all_bursts : (id : ℕ) (b : Bool) → (sending.id == id) ≡ b → AreOfHolder order state.memory.bus_bytes keeps.wrote (filter (is_of_id id) (state.memory.pending ++ sent_one ∷ [])) (holder id after)
  all_bursts id true same =
      subst (λ k. AreOfHolder order state.memory.bus_bytes keeps.wrote (filter (is_of_id k) (state.memory.pending ++ sent_one ∷ [])) (holder k after)) (eqb-true sending.id id same) sent_own_bursts
  all_bursts id false other = sent_other_bursts id other

  pub sent_keeps : MovesOn order sent_table (after_sent state.bridge sending).requests → HoldsBackIn order (after_sent state.bridge sending).requests
      → KeepsOrder order (sent_from state sending.burst (after_sent state.bridge sending)).state
  sent_keeps moves held =
      record {
        wrote = keeps.wrote;
        faults = keeps.faults;
        regions = keeps.regions;
        history =
            history_changed (writes order) (bytes_before order) keeps.wrote (memory_bytes state) sent_table (is_numbered sent_number) (after_sending sending.id) request
            sound.bridge_laws.requests.flights.rising by_number refl (λ n was. (moves.goes n).begun was) (λ over. absurd (cc (over, sent.ready.undone))) keeps.history;
        held = held;
        live = all-change_found (IsInItsTurn order state.memory.bus_bytes keeps.wrote) (is_numbered sent_number) (after_sending sending.id) sent_table.live request by_number in_order keeps.live;
        bursts = λ id. all_bursts id (sending.id == id) refl;
      }

-- ---- the step

own_id : (burst : Burst) → (writes_as (id_of burst) burst || reads_as (id_of burst) burst) ≡ true
own_id burst = grind arith

-- who isn't of this number wrote nothing more
not_added : (number : ℕ) (P : ℕ → Bool) (wrote : ℕ → ℕ → Bool) (i x : ℕ) → ((i == number) && P x) ≡ false → with_written number P wrote i x ≡ wrote i x
not_added number P wrote i x none = grind (arith, none)

module _ (order : Order) (state : WorldState) (pending : Pending) (beat : ℕ) (sound : IsSoundWorld state) (keeps : KeepsOrder order state)
    (found : find (has_serial pending.serial) state.memory.pending ≡ Some pending) (waits : beat_at pending beat ≡ Some Waiting) where
  abbrev id : ℕ
  id = id_of pending.burst

  abbrev table : RequestTable
  table = state.bridge.requests

  abbrev mine : List Pending
  mine = filter (is_of_id id) state.memory.pending

  of_id : is_of_id id pending ≡ true
  of_id = own_id pending.burst

  found_mine : find (has_serial pending.serial) mine ≡ Some pending
  found_mine = find-filter (has_serial pending.serial) (is_of_id id) state.memory.pending pending found of_id

  abbrev has : HasOpen order state keeps.wrote id
  has = has_open order state keeps.wrote id (has_serial pending.serial) pending sound (keeps.bursts id) found_mine

  abbrev number : ℕ
  number = has.request.flight.number

  abbrev write : Bool
  write = has.request.flight.writing

  abbrev one : IsOneOf order state.memory.bus_bytes keeps.wrote number write mine (outstanding has.request.flight) (has_serial pending.serial) pending
  one = open_one order state.memory.bus_bytes keeps.wrote number write mine (outstanding has.request.flight) (has_serial pending.serial) pending has.are found_mine

  abbrev going : IsGoingOn order table has.request one.piece
  going = going_on order state id has.request one.place one.piece sound keeps.regions has.known one.there

  of : IsInItsTurn order state.memory.bus_bytes keeps.wrote has.request
  of = all-find (IsInItsTurn order state.memory.bus_bytes keeps.wrote) (holds id) table.live has.request keeps.live has.known.held

  sound_pending : IsSoundPending state.memory.bus_bytes pending
  sound_pending = all-find (IsSoundPending state.memory.bus_bytes) (has_serial pending.serial) state.memory.pending pending sound.memory_laws.each found

  within : beat + 1 ≤ one.piece.len + 1
  within = beat_within order state.memory.bus_bytes keeps.wrote number write pending one.piece beat Waiting sound_pending one.is waits

  -- what a read takes is what its request finds
  finds : (x : ℕ) → transfer_has one.piece.address one.piece.size (beat + 1) x ≡ true → write ≡ false → memory_bytes state x ≡ bytes_before order number x
  finds x holds_it reads =
      found_here (writes order) (touches order) (bytes_before order) (started table) (is_finished table) keeps.wrote (memory_bytes state) number x keeps.history keeps.held going.started going.unfinished
      (transfer_touches order table has.request one.piece (beat + 1) x going of.asked (omega arith) within holds_it)
      (of.unwritten reads x)

  does : PerformsSerially order state.memory keeps.wrote number write pending one.piece beat
  does =
      performs_serially order state.memory keeps.wrote number write pending one.piece beat Waiting sound.memory_laws sound_pending keeps.faults one.is waits
      (λ x written. (writes_in_range order table.config has.request going.range x going.at of.asked written).good)
      (λ x holds_it page reads. finds x holds_it reads)

  -- the bytes that are written by it
  abbrev adds : ℕ → Bool
  adds x = stores_by order number write one.piece (beat + 1) x

  abbrev more : ℕ → ℕ → Bool
  more = with_written number adds keeps.wrote

  stored : (x : ℕ) → adds x ≡ true → (transfer_has one.piece.address one.piece.size (beat + 1) x ≡ true) × (writes order number x ≡ true)
  stored x there = and_parts _ _ (and_parts write _ there).1

  history : IsHistory (writes order) (bytes_before order) (started table) (is_finished table) more (λ x. unwrap_or (byte_at_address (memory_after state.memory pending.burst beat) x) 0)
  history =
      history_stores (writes order) (touches order) (bytes_before order) (started table) (is_finished table) keeps.wrote (memory_bytes state)
      (λ x. unwrap_or (byte_at_address (memory_after state.memory pending.burst beat) x) 0) number adds (byte_left order number) keeps.history keeps.held (left_alone order) going.started going.unfinished
      (λ x hit. (stored x hit).1)
      (λ x hit. message_touches order number x has.request.message of.asked (stored x hit).1)
      (λ x hit. refl)
      (λ x hit. ap (λ (o : Option ℕ). unwrap_or o 0) (does.set x hit))
      (λ x out. ap (λ (o : Option ℕ). unwrap_or o 0) (does.kept x out))

  kept : (i x : ℕ) → keeps.wrote i x ≡ true → more i x ≡ true
  kept i x there = store_keeps number adds keeps.wrote i x there

  -- a request that reads has written no more
  same_unwritten : (r : BridgedRequest) → (r.flight.number ≡ number → r ≡ has.request) → r.flight.writing ≡ false → (x : ℕ) → more r.flight.number x ≡ keeps.wrote r.flight.number x
  same_unwritten r alone isnt x =
      elim (cases_eq r.flight.number number) [
        | inl its ↦
            let reads : write ≡ false = ap (λ (q : BridgedRequest). q.flight.writing) (sym (alone its)) ∙ isnt in
            let none : adds x ≡ false = ap (λ w. stores_by order number w one.piece (beat + 1) x) reads in
            not_added number adds keeps.wrote r.flight.number x (and_right (r.flight.number == number) (adds x) none)
        | inr other ↦ not_added number adds keeps.wrote r.flight.number x (rw (ne_eqb r.flight.number number other) refl)
      ]

  -- nothing is added where another transfer of a planned piece would put it
  none_added : (k n x : ℕ) (piece : Piece) → slice_get (planned has.request.flight) k ≡ Some piece → n ≤ piece.len → transfer_has piece.address piece.size (n + 1) x ≡ true
      → (k ≡ going.place → n ≡ beat → ⊥) → adds x ≡ false
  none_added k n x piece there fits has_it other = by_store (adds x) refl
    where
      by_store : (b : Bool) → adds x ≡ b → b ≡ false
      by_store false isnt = refl
      by_store true its =
          let same =
          same_transfer has.request.flight going.range k going.place (n + 1) (beat + 1) x piece one.piece going.at.plannable going.plan there going.planned (omega arith) (omega (arith, fits)) (omega arith) within has_it
          (stored x its).0 in
          absurd (other same.0 (omega (arith, same.1)))

  added_nowhere : (k n x : ℕ) (piece : Piece) → slice_get (planned has.request.flight) k ≡ Some piece → n ≤ piece.len → transfer_has piece.address piece.size (n + 1) x ≡ true
      → (k ≡ going.place → n ≡ beat → ⊥) → keeps.wrote number x ≡ false → more number x ≡ false
  added_nowhere k n x piece there fits has_it other none =
      not_added number adds keeps.wrote number x (and_right (number == number) (adds x) (none_added k n x piece there fits has_it other)) ∙ none

  -- the other beats of the burst, the other bursts, and what isn't sent
  beats_left : LeavesOthers keeps.wrote more number beat one.piece
  beats_left k x other fits has_it none = added_nowhere going.place k x one.piece going.planned fits has_it (λ same at. other at) none

  burst_left : (k : ℕ) (piece : Piece) → slice_get (planned has.request.flight) k ≡ Some piece → k ≢ going.place → LeavesBurst keeps.wrote more number piece
  burst_left k piece there other n x fits has_it none = added_nowhere k n x piece there fits has_it (λ same at. other same) none

  others_left : (i : ℕ) (piece : Piece) → slice_get (outstanding has.request.flight) i ≡ Some piece → i ≢ one.place → LeavesBurst keeps.wrote more number piece
  others_left i piece there other =
      let at_place = part_at (planned has.request.flight) has.request.flight.answered has.request.flight.sent i piece there in
      let own : going.place ≡ one.place + has.request.flight.answered = going_on-place order state id has.request one.place one.piece sound keeps.regions has.known one.there in
      burst_left (i + has.request.flight.answered) piece at_place.0 (λ same. other (omega (arith, same, own)))

  unsent_left : (r : BridgedRequest) → (r.flight.number ≡ number → r ≡ has.request) → (k : ℕ) (piece : Piece) → r.flight.sent ≤ k → slice_get (planned r.flight) k ≡ Some piece
      → LeavesBurst keeps.wrote more r.flight.number piece
  unsent_left r alone k piece past there =
      elim (cases_eq r.flight.number number) [
        | inl its ↦
            let same = alone its in
            let own : LeavesBurst keeps.wrote more number piece =
            burst_left k piece (ap (λ (q : BridgedRequest). slice_get (planned q.flight) k) (sym same) ∙ there)
            (λ here. omega (arith, here, going.sent, past, ap (λ (q : BridgedRequest). q.flight.sent) same)) in
            subst (λ i. LeavesBurst keeps.wrote more i piece) (sym its) own
        | inr other ↦ λ n x fits has_it none. not_added number adds keeps.wrote r.flight.number x (rw (ne_eqb r.flight.number number other) refl) ∙ none
      ]

  -- a request that holds another ID has written no more
  another_same : (j : ℕ) → id ≢ j → (held : Option BridgedRequest) → holder j table.live ≡ held → IfSome held (λ r. (x : ℕ) → more r.flight.number x ≡ keeps.wrote r.flight.number x)
  another_same j other None is = tt
  another_same j other (Some r) is = λ x.
      elim (cases_eq r.flight.number number) [
        | inl its ↦
            let alone = all-find (λ (q : BridgedRequest). q.flight.number ≡ number → q ≡ has.request) (holds j) table.live r
            (numbered_once (holds id) table.live has.request sound.bridge_laws.requests.flights.rising has.known.held) is in
            let same = alone its in
            absurd (holds_one j other (subst (λ (q : BridgedRequest). holds j q ≡ true) same (find-passes (holds j) table.live r is)))
        | inr apart ↦ not_added number adds keeps.wrote r.flight.number x (rw (ne_eqb r.flight.number number apart) refl)
      ]
    where
      holds_one : (j : ℕ) → id ≢ j → holds j has.request ≡ true → ⊥
      holds_one j apart held =
          let its : (id == j) ≡ true = ap (λ (o : Option ℕ). is_id j o) (sym has.known.has_id) ∙ held in
          apart (eqb-true id j its)

  live_more : AllByRecursion (IsInItsTurn order state.memory.bus_bytes more) table.live
  live_more = all_both (λ (r : BridgedRequest). r.flight.number ≡ number → r ≡ has.request) (IsInItsTurn order state.memory.bus_bytes keeps.wrote) (IsInItsTurn order state.memory.bus_bytes more) table.live
      (λ r alone was. in_order_more order state.memory.bus_bytes keeps.wrote more r (kept r.flight.number) (same_unwritten r alone) (unsent_left r alone) was)
      (numbered_once (holds id) table.live has.request sound.bridge_laws.requests.flights.rising has.known.held) keeps.live

  abbrev change : Pending → Pending
  change = with_beat beat (beat_after state.memory pending.burst beat)

  own_bursts : AreOfHolder order state.memory.bus_bytes more (filter (is_of_id id) (change_first (has_serial pending.serial) change state.memory.pending)) (holder id table.live)
  own_bursts =
      subst (λ (ps : List Pending). AreOfHolder order state.memory.bus_bytes more ps (holder id table.live)) (sym (filter-change-kept (has_serial pending.serial) (is_of_id id) change state.memory.pending pending found of_id of_id))
      (of_same_holder order state.memory.bus_bytes more (change_first (has_serial pending.serial) change mine) (Some has.request) (holder id table.live) (sym has.known.held)
      (one.changed more change (kept number) others_left (does.still more (kept number) (λ x hit. store_adds number adds keeps.wrote x hit) beats_left)))

  other_bursts : (j : ℕ) → id ≢ j → AreOfHolder order state.memory.bus_bytes more (filter (is_of_id j) (change_first (has_serial pending.serial) change state.memory.pending)) (holder j table.live)
  other_bursts j other =
      let fails = of_one id j pending other of_id in
      subst (λ (ps : List Pending). AreOfHolder order state.memory.bus_bytes more ps (holder j table.live)) (sym (filter-change-other (has_serial pending.serial) (is_of_id j) change state.memory.pending pending found fails fails))
      (of_holder_same order state.memory.bus_bytes keeps.wrote more (filter (is_of_id j) state.memory.pending) (holder j table.live) (another_same j other (holder j table.live) refl) (keeps.bursts j))

  pub keeps_performed : KeepsOrder order (changed state.bridge (with_performed state.memory pending beat) Done).state
  keeps_performed =
      record {
        wrote = more;
        faults = keeps.faults;
        regions = keeps.regions;
        history = history;
        held = keeps.held;
        live = live_more;
        bursts = λ j.
            elim (cases_eq id j) [
              | inl same ↦
                  subst (λ k. AreOfHolder order state.memory.bus_bytes more (filter (is_of_id k) (change_first (has_serial pending.serial) change state.memory.pending)) (holder k table.live)) same own_bursts
              | inr other ↦ other_bursts j other
            ];
      }

-- a beat that is performed
pub performed_keeps : (order : Order) (state : WorldState) (serial beat : ℕ) (memory : FreeMemory) → performed state.memory serial beat ≡ (memory, perform.Done) → IsSoundWorld state → KeepsOrder order state
    → KeepsOrder order (changed state.bridge memory Done).state
performed_keeps order state serial beat memory is sound keeps =
    let did = performs_done state.memory serial beat memory is in
    let same : did.pending.serial ≡ serial = eqb-true did.pending.serial serial (find-passes (has_serial serial) state.memory.pending did.pending did.is_open) in
    subst (λ (m : FreeMemory). KeepsOrder order (changed state.bridge m Done).state) (sym did.becomes)
    (keeps_performed order state did.pending beat sound keeps (ap (λ s. find (has_serial s) state.memory.pending) same ∙ did.is_open) did.waits)
