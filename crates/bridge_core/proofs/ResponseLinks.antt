-- After an answer of the memory the outstanding bursts are those of the live requests: what settling a request leaves, and a B.
use Rattle.std.proofs.Common.{◌≡◌, ◌≢◌, ℕ, ◌≤◌, Bool, true, false, not, List, [], ◌∷◌, drop, length, refl, ap, sym, ◌∙◌, arith, inl, inr, ◌⊎◌}
use Rattle.std.specs.Prelude.{None, Option, Some}
use Rattle.std.specs.List.{filter}
use Rattle.std.proofs.lemmas.Bool.{cases_eq, leb-true}
use Rattle.std.proofs.lemmas.Bool.Decides.{nat_tests}
use Rattle.bus_words.specs.Places.{change_first}
use Rattle.bus_words.proofs.PlaceChanges.{find-without_first-none}
use Rattle.bus_words.proofs.FoundChanges.{filter-without, filter-without-other, find-changed, find-changed-gone, find-changed-other, part-empty}
use Rattle.bus_words.proofs.MappedPlaces.{length-filter-map}
use Rattle.axi_beats.specs.declared.BBeat.{BBeat}
use Rattle.axi_beats.specs.declared.Resp.{Resp}
use Rattle.axi_checker.specs.OpenBursts.{OpenWrite, lacks_data, write_of_id, write_to_fill}
use Rattle.burst_plan.specs.declared.Piece.{Piece}
use Rattle.flight_table.specs.LiveRequests.{finished, is_settled, planned, with_answered, with_write}
use Rattle.flight_table.specs.Order.{holds_id, is_id}
use Rattle.responses.specs.Gathered.{after_b}
use Rattle.bridge_core.specs.Bridge.{BridgeState, after_b_beat, b_fault}
use Rattle.bridge_core.specs.Laws.{AreLinked, IsLinked, IsPartWay, IsSoundBridge, came_of_next, open_reads, open_writes, outstanding, reads_held, writes_held}
use Rattle.bridge_core.specs.HeldRequests.{BridgedRequest, after_response, holder, holds, settled}
use Rattle.bridge_core.proofs.AnswerLinks.{FindsWriter, finds_writer, reads_none, writes_are}

-- ---- a request is settled

-- it is left as it is, plans its write, or is finished
abbrev pub with_its_write : BridgedRequest → BridgedRequest
with_its_write request = record request { flight = with_write request.flight }

abbrev pub finished_one : BridgedRequest → BridgedRequest
finished_one request = record request { flight = finished request.flight }

pub record IsAtEnd (request : BridgedRequest) : Type 0 where
  pub answered : is_settled request.flight ≡ true
  pub becomes : ((request.flight.writing ≡ false) × (settled request ≡ with_its_write request)) ⊎ (settled request ≡ finished_one request)

pub not_so : (b : Bool) → not b ≡ true → b ≡ false
not_so b is = grind arith

pub settled_as : (request : BridgedRequest) → ((is_settled request.flight ≡ false) × (settled request ≡ request)) ⊎ IsAtEnd request
settled_as request = grind arith

-- then nothing is outstanding, whatever is planned beyond
pub nothing_left : (request : BridgedRequest) → is_settled request.flight ≡ true → request.flight.sent ≤ length (planned request.flight) → request.flight.sent ≤ request.flight.answered
nothing_left request is sent = omega (arith, sent, leb-true (length (planned request.flight)) request.flight.answered is)

-- ---- what the holder of an ID has outstanding, after one of its requests was settled

-- the same as the request before it was settled
pub record IsLeft (id : ℕ) (held : Option BridgedRequest) (request : BridgedRequest) : Type 0 where
  pub writes : writes_held id held ≡ writes_held id (Some request)
  pub reads : reads_held id held ≡ reads_held id (Some request)

-- of no outstanding pieces there are none open
pub no_writes : (id : ℕ) (write : Bool) → open_writes id write [] ≡ []
no_writes id write = grind arith

pub no_reads : (id : ℕ) (write : Bool) (came : ℕ) → open_reads id write came [] ≡ []
no_reads id write came = grind arith

-- the request that holds an ID, after an answer
pub holds_it : (id : ℕ) (own : Option ℕ) → own ≡ Some id → is_id id own ≡ true
holds_it id own is = grind (arith, nat_tests)

pub left_after : (id : ℕ) (live : List BridgedRequest) (change : BridgedRequest → BridgedRequest) (old answered : BridgedRequest) → holder id live ≡ Some old → change old ≡ settled answered → answered.flight.id ≡ Some id
    → answered.flight.sent ≤ length (planned answered.flight) → length (filter (holds id) live) ≤ 1 → IsLeft id (holder id (change_first (holds id) change live)) answered
left_after id live change old answered held changed has sent one =
    elim (settled_as answered) [
      | inl going ↦ rw (find-changed (holds id) change live old held (rw (changed, going.1) (holds_it id answered.flight.id has)), changed, going.1) (record { writes = refl; reads = refl })
      | inr at_end ↦
          let none = part-empty (planned answered.flight) answered.flight.answered answered.flight.sent (nothing_left answered at_end.answered sent) in
          let no_write : [] ≡ writes_held id (Some answered) = rw none (sym (no_writes id answered.flight.writing)) in
          let no_read : [] ≡ reads_held id (Some answered) = rw none (sym (no_reads id answered.flight.writing (came_of_next answered))) in
          elim at_end.becomes [
            | inl writes ↦
                rw (find-changed (holds id) change live old held (rw (changed, writes.1) (holds_it id answered.flight.id has)), changed, writes.1) (record { writes = no_write; reads = no_read })
            | inr ends ↦ rw (find-changed-gone (holds id) change live old held (rw (changed, ends) refl) one) (record { writes = no_write; reads = no_read })
          ]
    ]

-- ---- who holds the other IDs

not_other : (id other : ℕ) (own : Option ℕ) → id ≢ other → is_id id own ≡ true → is_id other own ≡ false
not_other id other own apart holds = grind (arith, nat_tests)

pub settled-other : (other : ℕ) (request : BridgedRequest) → holds other request ≡ false → holds other (settled request) ≡ false
settled-other other request fails = grind arith

pub holder-other : (id other : ℕ) (live : List BridgedRequest) (change : BridgedRequest → BridgedRequest) → id ≢ other
    → ((request : BridgedRequest) → holds other request ≡ false → holds other (change request) ≡ false) → holder other (change_first (holds id) change live) ≡ holder other live
holder-other id other live change apart keeps =
    find-changed-other (holds other) (holds id) change live
    (λ request holds_id. let fails = not_other id other request.flight.id apart holds_id in (fails, keeps request fails))

-- ---- how far the next read is

pub part_way-zero : (write : Bool) (pieces : List Piece) → IsPartWay write 0 pieces
part_way-zero write pieces = grind arith

-- ---- a B

-- one holder of an ID at most
pub one_holder : (state : BridgeState) → IsSoundBridge state → (id : ℕ) → length (filter (holds id) state.requests.live) ≤ 1
one_holder state sound id =
    let one = sound.requests.flights.one_holder id in
    omega (arith, one, length-filter-map (holds_id id) (λ (request : BridgedRequest). request.flight) state.requests.live)

-- a request with the B counted, before it is settled
abbrev answered_by : Resp → BridgedRequest → BridgedRequest
answered_by resp request = record request { flight = with_answered request.flight; gathering = after_b resp request.gathering }

-- a write of another ID
apart_writes : (id other : ℕ) → id ≢ other → (write : OpenWrite) → write_of_id id write ≡ true → write_of_id other write ≡ false
apart_writes id other apart write is = grind (arith, nat_tests)

linked_response-own : (state : BridgeState) (b : BBeat) → IsSoundBridge state → FindsWriter state b → IsLinked b.id (after_b_beat state b).requests.live (after_b_beat state b).open_bursts
linked_response-own state b sound found =
    let flight = found.request.flight in
    let answered = answered_by b.resp found.request in
    let linked = sound.linked b.id in
    let left = left_after b.id state.requests.live (after_response b.resp) found.request answered found.holder.held refl found.holder.has_id found.holder.sound.sent (one_holder state sound b.id) in
    let before = linked.writes ∙ ap (writes_held b.id) found.holder.held ∙ writes_are b.id flight.writing (outstanding flight) (found.piece ∷ found.rest) found.writes found.first in
    record {
      writes = filter-without (write_of_id b.id) state.open_bursts.writes ∙ ap (drop 1) before
          ∙ sym (left.writes ∙ writes_are b.id flight.writing (outstanding answered.flight) found.rest found.writes found.next.less);
      reads = linked.reads ∙ ap (reads_held b.id) found.holder.held ∙ reads_none b.id flight.writing (came_of_next found.request) (outstanding flight) found.writes
          ∙ sym (left.reads ∙ reads_none b.id flight.writing (came_of_next answered) (outstanding answered.flight) found.writes);
    }

linked_response-other : (state : BridgeState) (b : BBeat) (other : ℕ) → IsSoundBridge state → b.id ≢ other → IsLinked other (after_b_beat state b).requests.live (after_b_beat state b).open_bursts
linked_response-other state b other sound apart =
    let same : holder other (after_b_beat state b).requests.live ≡ holder other state.requests.live =
    holder-other b.id other state.requests.live (after_response b.resp) apart (λ request fails. settled-other other (answered_by b.resp request) fails) in
    let linked = sound.linked other in
    record {
      writes = cc (same, filter-without-other (write_of_id other) (write_of_id b.id) state.open_bursts.writes (apart_writes b.id other apart), linked.writes);
      reads = cc (same, linked.reads);
    }

-- the link is kept
pub linked_response : (state : BridgeState) (b : BBeat) → IsSoundBridge state → b_fault state b ≡ None → AreLinked (after_b_beat state b).requests.live (after_b_beat state b).open_bursts
linked_response state b sound none =
    λ id.
    elim (cases_eq b.id id) [
      | inl same ↦ rw (← same) (linked_response-own state b sound (finds_writer state b sound none))
      | inr other ↦ linked_response-other state b id sound other
    ]

-- no write lacks data
pub filled_response : (state : BridgeState) (b : BBeat) → IsSoundBridge state → write_to_fill (after_b_beat state b).open_bursts ≡ None
filled_response state b sound = find-without_first-none lacks_data (write_of_id b.id) state.open_bursts.writes sound.filled
