-- After an R the outstanding bursts are those of the live requests.
use Rattle.std.proofs.Common.{◌≡◌, ◌≢◌, ℕ, ◌+◌, ◌==◌, ◌≤◌, Bool, true, false, List, ◌∷◌, length, refl, ap, sym, ◌∙◌, arith, inl, inr}
use Rattle.std.specs.Prelude.{None, Some}
use Rattle.std.specs.List.{filter, find}
use Rattle.std.proofs.lemmas.Bool.{cases_eq, eq-eqb, eqb-true}
use Rattle.std.proofs.lemmas.Bool.Decides.{nat_tests}
use Rattle.bus_words.specs.Places.{change_first, without_first}
use Rattle.bus_words.proofs.FoundChanges.{filter-changed, filter-changed-other, filter-without, filter-without-other}
use Rattle.axi_beats.specs.declared.RBeat.{RBeat}
use Rattle.axi_checker.specs.OpenBursts.{OpenRead, read_of_id, reads_after}
use Rattle.axi_checker.proofs.ReadsAfter.{one_more, reads_after-closes, reads_after-goes_on}
use Rattle.burst_plan.specs.declared.Piece.{Piece}
use Rattle.flight_table.specs.LiveRequests.{planned, with_answered}
use Rattle.responses.specs.Gathered.{after_r}
use Rattle.bridge_core.specs.Bridge.{BridgeState, after_r_beat, r_fault}
use Rattle.bridge_core.specs.Laws.{AreLinked, IsLinked, IsSoundBridge, came_of_next, open_read, open_reads, outstanding, reads_held, writes_held}
use Rattle.bridge_core.specs.HeldRequests.{BridgedRequest, after_read, holder, holds, outline_in, settled}
use Rattle.bridge_core.proofs.AnswerLinks.{IsReader, finds_reader, reads_are, writes_none}
use Rattle.bridge_core.proofs.ResponseLinks.{holder-other, left_after, one_holder}

-- ---- a request with an R counted, before it is settled

-- the last one of its burst, and an earlier one
abbrev pub closed_by : ℕ → RBeat → BridgedRequest → BridgedRequest
closed_by bus_bytes r request = record request { flight = with_answered request.flight; gathering = after_r bus_bytes (outline_in request) r request.gathering.came request.gathering }

abbrev pub counted_by : ℕ → RBeat → BridgedRequest → BridgedRequest
counted_by bus_bytes r request = record request { gathering = after_r bus_bytes (outline_in request) r request.gathering.came request.gathering }

pub after_read-last : (bus_bytes : ℕ) (r : RBeat) (request : BridgedRequest) → r.last ≡ true → after_read bus_bytes r request ≡ settled (closed_by bus_bytes r request)
after_read-last bus_bytes r request is = rw is refl

pub after_read-more : (bus_bytes : ℕ) (r : RBeat) (request : BridgedRequest) → r.last ≡ false → after_read bus_bytes r request ≡ settled (counted_by bus_bytes r request)
after_read-more bus_bytes r request is = rw is refl

pub after_read-other : (bus_bytes : ℕ) (r : RBeat) (other : ℕ) (request : BridgedRequest) → holds other request ≡ false → holds other (after_read bus_bytes r request) ≡ false
after_read-other bus_bytes r other request fails = grind arith

-- ---- the reads of the port

-- the first read of an ID has one beat more, or is gone
reads_more : (id : ℕ) (reads : List OpenRead) (came : ℕ) (piece : Piece) → find (read_of_id id) reads ≡ Some (open_read id came piece) → (came == piece.len) ≡ false → came ≤ piece.len
    → reads_after id reads ≡ change_first (read_of_id id) one_more reads
reads_more id reads came piece found other few = reads_after-goes_on id reads (open_read id came piece) found (grind (arith, nat_tests))

reads_less : (id : ℕ) (reads : List OpenRead) (came : ℕ) (piece : Piece) → find (read_of_id id) reads ≡ Some (open_read id came piece) → (came == piece.len) ≡ true
    → reads_after id reads ≡ without_first (read_of_id id) reads
reads_less id reads came piece found same = reads_after-closes id reads (open_read id came piece) found (grind (arith, nat_tests))

-- a read of another ID
apart_reads : (id other : ℕ) → id ≢ other → (read : OpenRead) → read_of_id id read ≡ true → read_of_id other read ≡ false
apart_reads id other apart read is = grind (arith, nat_tests)

reads_after-other : (id other : ℕ) (reads : List OpenRead) (came : ℕ) (piece : Piece) → id ≢ other → find (read_of_id id) reads ≡ Some (open_read id came piece) → came ≤ piece.len
    → filter (read_of_id other) (reads_after id reads) ≡ filter (read_of_id other) reads
reads_after-other id other reads came piece apart found few = by_flag (came == piece.len) refl
  where
    by_flag : (flag : Bool) → (came == piece.len) ≡ flag → filter (read_of_id other) (reads_after id reads) ≡ filter (read_of_id other) reads
    by_flag true is = ap (filter (read_of_id other)) (reads_less id reads came piece found is) ∙ filter-without-other (read_of_id other) (read_of_id id) reads (apart_reads id other apart)
    by_flag false is =
        ap (filter (read_of_id other)) (reads_more id reads came piece found is few)
        ∙ filter-changed-other (read_of_id other) (read_of_id id) one_more reads (λ read passes. let fails = apart_reads id other apart read passes in (fails, fails))

-- ---- what is left outstanding

module _ (state : BridgeState) (r : RBeat) (request : BridgedRequest) (piece : Piece) (rest : List Piece) (sound : IsSoundBridge state) (reader : IsReader state r request piece rest) where
  linked : IsLinked r.id state.requests.live state.open_bursts
  linked = sound.linked r.id

  -- the reads of the ID before it
  before : filter (read_of_id r.id) state.open_bursts.reads ≡ open_reads r.id false (came_of_next request) (piece ∷ rest)
  before =
      linked.reads ∙ ap (reads_held r.id) reader.holder.held
      ∙ reads_are r.id request.flight.writing (came_of_next request) (outstanding request.flight) (piece ∷ rest) reader.reads reader.first

  -- and what is left of them: the request that holds the ID, after an R, reads on
  linked_own : (answered : BridgedRequest) (came : ℕ) (pieces : List Piece) → after_read state.requests.config.axi_bytes r request ≡ settled answered → answered.flight.id ≡ Some r.id
      → answered.flight.sent ≤ length (planned answered.flight) → answered.flight.writing ≡ false → came_of_next answered ≡ came → outstanding answered.flight ≡ pieces
      → filter (read_of_id r.id) (reads_after r.id state.open_bursts.reads) ≡ open_reads r.id false came pieces → IsLinked r.id (after_r_beat state r).requests.live (after_r_beat state r).open_bursts
  linked_own answered came pieces is has sent reads now left listed =
      let after = left_after r.id state.requests.live (after_read state.requests.config.axi_bytes r) request answered reader.holder.held is has sent (one_holder state sound r.id) in
      record {
        writes = linked.writes ∙ ap (writes_held r.id) reader.holder.held ∙ writes_none r.id request.flight.writing (outstanding request.flight) reader.reads
            ∙ sym (after.writes ∙ writes_none r.id answered.flight.writing (outstanding answered.flight) reads);
        reads = listed ∙ sym (after.reads ∙ reads_are r.id answered.flight.writing (came_of_next answered) (outstanding answered.flight) pieces reads left ∙ ap (λ n. open_reads r.id false n pieces) now);
      }

  linked_read-last : r.last ≡ true → IsLinked r.id (after_r_beat state r).requests.live (after_r_beat state r).open_bursts
  linked_read-last is =
      let answered = closed_by state.requests.config.axi_bytes r request in
      let whole : (came_of_next request == piece.len) ≡ true = sym reader.last ∙ is in
      let all : came_of_next request ≡ piece.len = eqb-true (came_of_next request) piece.len whole in
      linked_own answered 0 rest (after_read-last state.requests.config.axi_bytes r request is) reader.holder.has_id reader.holder.sound.sent reader.reads
      (omega (arith, all, reader.more, reader.place, reader.holder.served.came)) reader.next.less
      (rw (reads_less r.id state.open_bursts.reads (came_of_next request) piece reader.found whole, filter-without, before) refl)

  linked_read-more : r.last ≡ false → IsLinked r.id (after_r_beat state r).requests.live (after_r_beat state r).open_bursts
  linked_read-more is =
      let answered = counted_by state.requests.config.axi_bytes r request in
      let part : (came_of_next request == piece.len) ≡ false = sym reader.last ∙ is in
      let changed = filter-changed (read_of_id r.id) one_more state.open_bursts.reads (open_read r.id (came_of_next request) piece) reader.found (eq-eqb r.id r.id refl) in
      linked_own answered (came_of_next request + 1) (piece ∷ rest) (after_read-more state.requests.config.axi_bytes r request is) reader.holder.has_id reader.holder.sound.sent reader.reads
      (omega (arith, reader.place, reader.holder.served.came)) reader.first
      (rw (reads_more r.id state.open_bursts.reads (came_of_next request) piece reader.found part reader.few, changed, before) refl)

  linked_read-own : (last : Bool) → r.last ≡ last → IsLinked r.id (after_r_beat state r).requests.live (after_r_beat state r).open_bursts
  linked_read-own true is = linked_read-last is
  linked_read-own false is = linked_read-more is

  linked_read-other : (other : ℕ) → r.id ≢ other → IsLinked other (after_r_beat state r).requests.live (after_r_beat state r).open_bursts
  linked_read-other other apart =
      let same : holder other (after_r_beat state r).requests.live ≡ holder other state.requests.live =
      holder-other r.id other state.requests.live (after_read state.requests.config.axi_bytes r) apart (after_read-other state.requests.config.axi_bytes r other) in
      let before = sound.linked other in
      record {
        writes = cc (same, before.writes);
        reads = cc (same, reads_after-other r.id other state.open_bursts.reads (came_of_next request) piece apart reader.found reader.few, before.reads);
      }

-- the link is kept
pub linked_read : (state : BridgeState) (r : RBeat) → IsSoundBridge state → r_fault state r ≡ None → AreLinked (after_r_beat state r).requests.live (after_r_beat state r).open_bursts
linked_read state r sound none =
    let finds = finds_reader state r sound none in
    λ id.
    elim (cases_eq r.id id) [
      | inl same ↦ rw (← same) (linked_read-own state r finds.request finds.piece finds.rest sound finds.reader r.last refl)
      | inr other ↦ linked_read-other state r finds.request finds.piece finds.rest sound finds.reader id other
    ]
