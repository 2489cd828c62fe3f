-- After a burst was sent the outstanding bursts are those of the live requests.
use Rattle.std.proofs.Common.{◌≡◌, ℕ, suc, ◌+◌, ◌==◌, ◌<◌, ◌≤◌, Bool, true, false, List, [], ◌∷◌, ◌++◌, map, length, drop, take, Option, Some, None, refl, ap, sym, ◌∙◌, arith, inl, inr, ◌⊎◌}
use Rattle.std.specs.Prelude.{if◌then◌else◌}
use Rattle.std.specs.List.{AllByRecursion, filter, find, list_any, slice_get}
use Rattle.std.proofs.lemmas.Bool.{eq-eqb}
use Rattle.std.proofs.lemmas.Bool.Decides.{eqb_tells, nat_tests}
use Rattle.std.proofs.lemmas.List.{drop-append-le, append-nil, length-take-le}
use Rattle.std.proofs.lemmas.List.Elements.{filter-append}
use Rattle.std.proofs.lemmas.Option.{get_or_from_slice_get, slice_get_within}
use Rattle.std.proofs.Math.Seq.{take-suc}
use Rattle.bus_words.proofs.PlaceChanges.{all-find}
use Rattle.bus_words.proofs.MappedPlaces.{length-filter-map}
use Rattle.bus_words.proofs.FoundChanges.{find-alone, find-changed-found, find-changed-unseen, part-empty}
use Rattle.burst_plan.specs.Pieces.{PlannedRange}
use Rattle.burst_plan.specs.declared.Piece.{Piece}
use Rattle.flight_table.specs.Laws.{AreRising, IsSoundRequest}
use Rattle.flight_table.specs.LiveRequests.{LiveRequest, next_piece, planned}
use Rattle.flight_table.specs.Order.{holds_id}
use Rattle.flight_table.specs.declared.TableLimits.{TableLimits}
use Rattle.flight_table.proofs.Steps.{takes_id}
use Rattle.axi_checker.specs.OpenBursts.{OpenBursts, OpenRead, OpenWrite, read_of_id, write_of_id}
use Rattle.axi_checker.specs.Rules.{open_with_burst}
use Rattle.bridge_core.specs.Bridge.{BridgeState, after_sent}
use Rattle.bridge_core.specs.HeldRequests.{table_limits_of, BridgedRequest, RequestTable, after_sending, flights_of, holder, holds, is_numbered, may_send}
use Rattle.bridge_core.specs.Laws.{AreLinked, IsLinked, IsPartWay, IsSoundBridge, IsSoundRequestTable, came_of_next, open_read, open_reads, open_writes, outstanding, reads_held, writes_held}
use Rattle.bridge_core.specs.Sending.{Sending, burst_of_piece, next_sending}
use Rattle.bridge_core.proofs.NextSending.{IsNext, next_found, next_served, next_sound}
use Rattle.bridge_core.proofs.ResponseLinks.{no_reads, no_writes, part_way-zero}

-- ---- searches among live requests

pub numbers : (P : ℕ → Type 0) (live : List BridgedRequest) → AllByRecursion P (map (λ (flight : LiveRequest). flight.number) (flights_of live)) → AllByRecursion (λ (r : BridgedRequest). P r.flight.number) live
numbers P [] all = tt
numbers P (r ∷ live) all = (all.0, numbers P live all.1)

-- a live request is found by its number
pub found_by_number : (p : BridgedRequest → Bool) (live : List BridgedRequest) (request : BridgedRequest) → AreRising (map (λ (flight : LiveRequest). flight.number) (flights_of live))
    → find p live ≡ Some request → find (is_numbered request.flight.number) live ≡ Some request
found_by_number p [] request rising found = absurd (cc (found))
found_by_number p (r ∷ live) request rising found =
    grind (
      arith,
      all-find (λ (o : BridgedRequest). r.flight.number < o.flight.number) p live request (numbers (λ m. r.flight.number < m) live rising.0),
      found_by_number p live request rising.1,
    )

pub holders_counted : (q : LiveRequest → Bool) (live : List BridgedRequest) → length (filter q (flights_of live)) ≡ length (filter (λ (r : BridgedRequest). q r.flight) live)
holders_counted q live = length-filter-map q (λ (r : BridgedRequest). r.flight) live

none_holds : (q : LiveRequest → Bool) (live : List BridgedRequest) → list_any q (flights_of live) ≡ false → find (λ (r : BridgedRequest). q r.flight) live ≡ None
none_holds q [] none = refl
none_holds q (r ∷ live) none = grind (arith, none_holds q live)

-- ---- the bursts of a request

-- one more of a list is taken
drop_take_more : {X : Type 0} (xs : List X) (a s : ℕ) (x : X) → a ≤ s → slice_get xs s ≡ Some x → drop a (take (s + 1) xs) ≡ drop a (take s xs) ++ x ∷ []
drop_take_more xs a s x below there =
    let within = slice_get_within xs s x there in
    let one : s + 1 ≡ suc s = omega arith in
    let inside : a ≤ length (take s xs) = rw (length-take-le s xs (omega (arith, within))) below in
    ap (λ n. drop a (take n xs)) one ∙ ap (drop a) (take-suc xs s x within) ∙ drop-append-le a (take s xs) _ inside ∙ ap (λ y. drop a (take s xs) ++ y ∷ []) (get_or_from_slice_get xs s x x there)

open_writes-append : (id : ℕ) (write : Bool) (pieces : List Piece) (piece : Piece) → open_writes id write (pieces ++ piece ∷ []) ≡ open_writes id write pieces ++ open_writes id write (piece ∷ [])
open_writes-append id write [] piece = grind arith
open_writes-append id write (first ∷ pieces) piece = grind (arith, open_writes-append id write pieces piece)

open_reads-append : (id : ℕ) (write : Bool) (came : ℕ) (pieces : List Piece) (piece : Piece) → IsPartWay write came pieces
    → open_reads id write came (pieces ++ piece ∷ []) ≡ open_reads id write came pieces ++ open_reads id write 0 (piece ∷ [])
open_reads-append id true came pieces piece way = refl
open_reads-append id false came [] piece way = ap (λ n. open_reads id false n (piece ∷ [])) way
open_reads-append id false came (first ∷ pieces) piece way = ap (λ reads. open_read id came first ∷ reads) (open_reads-append id false 0 pieces piece (part_way-zero false pieces))

pub outstanding_sent : (id : ℕ) (request : BridgedRequest) (piece : Piece) → request.flight.answered ≤ request.flight.sent → next_piece request.flight ≡ Some piece
    → outstanding (after_sending id request).flight ≡ outstanding request.flight ++ piece ∷ []
outstanding_sent id request piece below next = drop_take_more (planned request.flight) request.flight.answered request.flight.sent piece below next

-- a burst as it stands open
module _ (id : ℕ) (request : BridgedRequest) (range : PlannedRange) (piece : Piece) (open_bursts : OpenBursts) where
  abbrev one_write : List OpenWrite
  one_write = open_writes id request.flight.writing (piece ∷ [])

  abbrev one_read : List OpenRead
  one_read = open_reads id request.flight.writing 0 (piece ∷ [])

  abbrev with_it : OpenBursts
  with_it = open_with_burst open_bursts (burst_of_piece id request range piece)

  writes_after : with_it.writes ≡ open_bursts.writes ++ one_write
  writes_after = grind (arith, append-nil open_bursts.writes)

  reads_after : with_it.reads ≡ open_bursts.reads ++ one_read
  reads_after = grind (arith, append-nil open_bursts.reads)

  -- it is of its ID alone
  writes_of_id : (j : ℕ) (b : Bool) → (id == j) ≡ b → filter (write_of_id j) one_write ≡ (if b then one_write else [])
  writes_of_id j b is = grind arith

  reads_of_id : (j : ℕ) (b : Bool) → (id == j) ≡ b → filter (read_of_id j) one_read ≡ (if b then one_read else [])
  reads_of_id j b is = grind arith

-- ---- the link

-- who holds the ID of the next burst: its request, or nobody, and then none of the request's bursts is outstanding
pub record IsTakenBy (id : ℕ) (live : List BridgedRequest) (request : BridgedRequest) : Type 0 where
  pub held : (holder id live ≡ None) ⊎ (holder id live ≡ Some request)
  pub free : holder id live ≡ None → outstanding request.flight ≡ []
  pub writes : writes_held id (holder id live) ≡ writes_held id (Some request)
  pub reads : reads_held id (holder id live) ≡ reads_held id (Some request)

held_by : (id : ℕ) (live : List BridgedRequest) (request : BridgedRequest) → holder id live ≡ Some request → IsTakenBy id live request
held_by id live request is = record { held = inr is; free = λ none. absurd (cc (none, is)); writes = ap (writes_held id) is; reads = ap (reads_held id) is }

free_for : (id : ℕ) (live : List BridgedRequest) (request : BridgedRequest) → holder id live ≡ None → outstanding request.flight ≡ [] → IsTakenBy id live request
free_for id live request is none =
    record {
      held = inl is;
      free = λ same. none;
      writes = rw (is, none) (sym (no_writes id request.flight.writing));
      reads = rw (is, none) (sym (no_reads id request.flight.writing _));
    }

pub none_sent : (limits : TableLimits) (accepted : ℕ) (flight : LiveRequest) → IsSoundRequest limits accepted flight → flight.done ≡ false → flight.id ≡ None → flight.sent ≡ 0
none_sent limits accepted flight sound undone none = grind (arith, sound.holds undone)

pub taken_by : (table : RequestTable) (sending : Sending) → IsSoundRequestTable table → IsNext table sending → IsTakenBy sending.id table.live sending.request
taken_by table sending sound next = by_id sending.request.flight.id refl
  where
    each : IsSoundRequest (table_limits_of table.config) table.accepted sending.request.flight
    each = next_sound table sending sound next

    by_id : (own : Option ℕ) → sending.request.flight.id ≡ own → IsTakenBy sending.id table.live sending.request
    by_id None none =
        let unsent = none_sent (table_limits_of table.config) table.accepted sending.request.flight each next.ready.undone none in
        let idle = part-empty (planned sending.request.flight) sending.request.flight.answered sending.request.flight.sent (omega (arith, unsent)) in
        let takes = takes_id (table_limits_of table.config) (flights_of table.live) sending.request.flight sending.id sending.request.flight.id refl each.id next.id in
        elim takes.own [
          | inl held ↦ absurd (grind (arith, none, held))
          | inr free ↦ free_for sending.id table.live sending.request (none_holds (holds_id sending.id) table.live free) idle
        ]
    by_id (Some held) some =
        let same : held ≡ sending.id = grind (arith, next.id, some) in
        let passes : holds sending.id sending.request ≡ true = rw some (eq-eqb held sending.id same) in
        held_by sending.id table.live sending.request
        (find-alone (may_send table) (holds sending.id) table.live sending.request next.found passes (omega (arith, sound.flights.one_holder sending.id, holders_counted (holds_id sending.id) table.live)))

-- it holds no other ID
pub holds_no_other : (table : RequestTable) (sending : Sending) (j : ℕ) → IsNext table sending → (sending.id == j) ≡ false → holds j sending.request ≡ false
holds_no_other table sending j next other = grind (arith, nat_tests, next.id)

-- ---- the link

module _ (id : ℕ) (live after : List BridgedRequest) (request : BridgedRequest) (open_bursts : OpenBursts) (range : PlannedRange) (piece : Piece) where
  -- the ID of the burst: the request holds it afterwards, and has one more outstanding
  linked-own : IsLinked id live open_bursts → IsTakenBy id live request → IsPartWay request.flight.writing (came_of_next request) (outstanding request.flight) → holder id after ≡ Some (after_sending id request)
      → outstanding (after_sending id request).flight ≡ outstanding request.flight ++ piece ∷ [] → IsLinked id after (with_it id request range piece open_bursts)
  linked-own linked taken way held more =
      record {
        writes =
            cc (
              writes_after id request range piece open_bursts,
              filter-append (write_of_id id) open_bursts.writes (one_write id request range piece open_bursts),
              writes_of_id id request range piece open_bursts id true (eq-eqb id id refl),
              linked.writes,
              taken.writes,
              open_writes-append id request.flight.writing (outstanding request.flight) piece,
            );
        reads =
            cc (
              reads_after id request range piece open_bursts,
              filter-append (read_of_id id) open_bursts.reads (one_read id request range piece open_bursts),
              reads_of_id id request range piece open_bursts id true (eq-eqb id id refl),
              linked.reads,
              taken.reads,
              open_reads-append id request.flight.writing (came_of_next request) (outstanding request.flight) piece way,
            );
      }

  -- another ID
  linked-other : (j : ℕ) → IsLinked j live open_bursts → (id == j) ≡ false → holder j after ≡ holder j live → IsLinked j after (with_it id request range piece open_bursts)
  linked-other j linked other held =
      record {
        writes =
            cc (
              writes_after id request range piece open_bursts,
              filter-append (write_of_id j) open_bursts.writes (one_write id request range piece open_bursts),
              writes_of_id id request range piece open_bursts j false other,
              append-nil (filter (write_of_id j) open_bursts.writes),
              linked.writes,
            );
        reads =
            cc (
              reads_after id request range piece open_bursts,
              filter-append (read_of_id j) open_bursts.reads (one_read id request range piece open_bursts),
              reads_of_id id request range piece open_bursts j false other,
              append-nil (filter (read_of_id j) open_bursts.reads),
              linked.reads,
            );
      }

pub linked_sent : (state : BridgeState) (sending : Sending) → IsSoundBridge state → next_sending state.requests ≡ Some sending → AreLinked (after_sent state sending).requests.live (after_sent state sending).open_bursts
linked_sent state sending sound is id =
    let requests = state.requests in
    let next = next_found requests sending is in
    let by_number = found_by_number (may_send requests) requests.live sending.request sound.requests.flights.rising next.found in
    let number = is_numbered sending.request.flight.number in
    elim (eqb_tells sending.id id) [
      | inl same ↦
          let taken = taken_by requests sending sound.requests next in
          rw (next.burst, ← same.1)
          (linked-own sending.id requests.live (after_sent state sending).requests.live sending.request state.open_bursts next.range next.piece (sound.linked sending.id) taken
          (next_served requests sending sound.requests next).next
          (find-changed-found (holds sending.id) number (after_sending sending.id) requests.live sending.request by_number (eq-eqb sending.id sending.id refl) taken.held)
          (outstanding_sent sending.id sending.request next.piece (next_sound requests sending sound.requests next).answered next.next))
      | inr other ↦
          rw next.burst
          (linked-other sending.id requests.live (after_sent state sending).requests.live sending.request state.open_bursts next.range next.piece id (sound.linked id) other.0
          (find-changed-unseen (holds id) number (after_sending sending.id) requests.live sending.request by_number (holds_no_other requests sending id next other.0) other.0))
    ]
