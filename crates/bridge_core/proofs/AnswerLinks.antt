-- What an answer of the memory tells of the live request that holds its ID: it is to the oldest burst that this request has outstanding.
use Rattle.std.proofs.Common.{◌≡◌, ℕ, zero, suc, ◌+◌, ◌==◌, ◌<◌, ◌≤◌, Bool, true, false, List, [], ◌∷◌, map, drop, take, refl, ap, sym, ◌∙◌, arith}
use Rattle.std.specs.Prelude.{None, Some}
use Rattle.std.specs.List.{filter, find, slice_get}
use Rattle.std.proofs.lemmas.List.Sums.{sum_by-cons, sum_by-take-le}
use Rattle.std.proofs.lemmas.Bool.Decides.{nat_tests}
use Rattle.bus_words.proofs.PlaceChanges.{all-find, find-passes}
use Rattle.bus_words.proofs.FoundChanges.{IsNextOf, filter-found, part-next}
use Rattle.axi_beats.specs.declared.BBeat.{BBeat}
use Rattle.axi_beats.specs.declared.RBeat.{RBeat}
use Rattle.axi_checker.specs.OpenBursts.{OpenRead, OpenWrite, read_of_id, write_of_id}
use Rattle.axi_checker.proofs.InOrder.{finds_read, finds_response}
use Rattle.burst_plan.specs.Pieces.{PlannedRange}
use Rattle.burst_plan.specs.declared.Piece.{Piece}
use Rattle.flight_table.specs.Laws.{IsSoundRequest}
use Rattle.flight_table.specs.LiveRequests.{LiveRequest, planned, read_pieces, with_answered}
use Rattle.bridge_core.specs.Bridge.{BridgeState, b_fault, r_fault}
use Rattle.config.specs.Configs.{axi_port_of}
use Rattle.bridge_core.specs.HeldRequests.{table_limits_of, BridgedRequest, RequestTable, holder, holds, outline_in}
use Rattle.bridge_core.specs.Laws.{IsPartWay, IsServed, IsSoundBridge, IsSoundRequestTable, answered_pieces, beats_in, came_of_next, open_read, open_reads, open_write, open_writes, outstanding, reads_held, writes_held}
use Rattle.responses.specs.Gathered.{reads_of}
use Rattle.bridge_core.proofs.NextSending.{present}
use Rattle.bridge_core.proofs.ReadCounts.{reads_counted}
use Rattle.bridge_core.proofs.SendingLinks.{sound_requests}

-- ---- the first of the outstanding bursts

-- a side's bursts, and the first of them
record HasNext (own side : Bool) (pieces : List Piece) : Type 0 where
  pub on : own ≡ side
  pub piece : Piece
  pub rest : List Piece
  pub is : pieces ≡ piece ∷ rest

next_write : (id : ℕ) (own : Bool) (pieces : List Piece) (write : OpenWrite) (writes : List OpenWrite) → open_writes id own pieces ≡ write ∷ writes → HasNext own true pieces
next_write id false pieces write writes is = absurd (cc (is))
next_write id true [] write writes is = absurd (cc (is))
next_write id true (piece ∷ rest) write writes is = record { on = refl; piece = piece; rest = rest; is = refl }

next_read : (id : ℕ) (own : Bool) (came : ℕ) (pieces : List Piece) (read : OpenRead) (reads : List OpenRead) → open_reads id own came pieces ≡ read ∷ reads → HasNext own false pieces
next_read id true came pieces read reads is = absurd (cc (is))
next_read id false came [] read reads is = absurd (cc (is))
next_read id false came (piece ∷ rest) read reads is = record { on = refl; piece = piece; rest = rest; is = refl }

-- the bursts of a side
pub writes_are : (id : ℕ) (own : Bool) (pieces others : List Piece) → own ≡ true → pieces ≡ others → open_writes id own pieces ≡ map (open_write id) others
writes_are id own pieces others on is = rw (on, is) refl

pub reads_are : (id : ℕ) (own : Bool) (came : ℕ) (pieces others : List Piece) → own ≡ false → pieces ≡ others → open_reads id own came pieces ≡ open_reads id false came others
reads_are id own came pieces others on is = rw (on, is) refl

-- and those of the other
pub writes_none : (id : ℕ) (own : Bool) (pieces : List Piece) → own ≡ false → open_writes id own pieces ≡ []
writes_none id own pieces on = rw on refl

pub reads_none : (id : ℕ) (own : Bool) (came : ℕ) (pieces : List Piece) → own ≡ true → open_reads id own came pieces ≡ []
reads_none id own came pieces on = rw on refl

-- ---- the request that holds an ID

-- what is known of it
pub record IsHolder (table : RequestTable) (id : ℕ) (request : BridgedRequest) : Type 0 where
  pub held : holder id table.live ≡ Some request
  pub served : IsServed table.config table.regions request
  pub sound : IsSoundRequest (table_limits_of table.config) table.accepted request.flight
  pub has_id : request.flight.id ≡ Some id
  pub live : request.flight.done ≡ false

pub holder_known : (table : RequestTable) (id : ℕ) (request : BridgedRequest) → IsSoundRequestTable table → holder id table.live ≡ Some request → IsHolder table id request
holder_known table id request sound held =
    let served = all-find (IsServed table.config table.regions) (holds id) table.live request sound.served held in
    let flight_sound = all-find (λ r. IsSoundRequest (table_limits_of table.config) table.accepted r.flight) (holds id) table.live request (sound_requests table sound) held in
    let passes = find-passes (holds id) table.live request held in
    let holds_it : request.flight.id ≡ Some id = grind (arith, nat_tests, passes) in
    let live : request.flight.done ≡ false = grind (arith, flight_sound.freed, holds_it) in
    assumption

-- ---- a B

-- the request that holds the ID of a B: it writes, and this is to the oldest of its bursts that aren't answered
pub record FindsWriter (state : BridgeState) (b : BBeat) : Type 0 where
  pub request : BridgedRequest
  pub holder : IsHolder state.requests b.id request
  pub writes : request.flight.writing ≡ true
  pub piece : Piece
  pub rest : List Piece
  pub first : outstanding request.flight ≡ piece ∷ rest
  pub next : IsNextOf (planned request.flight) request.flight.answered request.flight.sent piece rest

pub finds_writer : (state : BridgeState) (b : BBeat) → IsSoundBridge state → b_fault state b ≡ None → FindsWriter state b
finds_writer state b sound none =
    let finds = finds_response (axi_port_of state.requests.config) state.open_bursts b none in
    let writes = drop 1 (filter (write_of_id b.id) state.open_bursts.writes) in
    let listed : writes_held b.id (holder b.id state.requests.live) ≡ finds.write ∷ writes =
    sym (sound.linked b.id).writes ∙ filter-found (write_of_id b.id) state.open_bursts.writes finds.write finds.found in
    let (request, is) = present (holder b.id state.requests.live) (grind (arith, listed)) in
    let flight = request.flight in
    let first = next_write b.id flight.writing (outstanding flight) finds.write writes (rw is at listed) in
    record {
      request = request;
      holder = holder_known state.requests b.id request sound.requests is;
      writes = first.on;
      piece = first.piece;
      rest = first.rest;
      first = first.is;
      next = part-next (planned flight) flight.answered flight.sent first.piece first.rest first.is;
    }

-- ---- an R

-- the transfers of the pieces to a place, with the next one
pub beats_in-next : (pieces : List Piece) (k : ℕ) (piece : Piece) → slice_get pieces k ≡ Some piece → beats_in (take (k + 1) pieces) ≡ beats_in (take k pieces) + (piece.len + 1)
beats_in-next [] k piece found = absurd (cc (found))
beats_in-next (p ∷ pieces) zero piece found = grind (arith, sum_by-cons (λ (q : Piece). q.len + 1) p [])
beats_in-next (p ∷ pieces) (suc k) piece found =
    let next : suc k + 1 ≡ suc (k + 1) = omega arith in
    rw (next, sum_by-cons (λ (q : Piece). q.len + 1) p (take k pieces), sum_by-cons (λ (q : Piece). q.len + 1) p (take (k + 1) pieces)) (omega (arith, beats_in-next pieces k piece found))

-- the reads that were answered are some of its reads
pub answered_least : (flight : LiveRequest) → beats_in (answered_pieces flight) ≤ beats_in (read_pieces flight)
answered_least flight = grind (arith, sum_by-take-le (λ (p : Piece). p.len + 1) (read_pieces flight) flight.answered)

-- one more of its reads was answered whole
pub answered_next : (flight : LiveRequest) (piece : Piece) → flight.writing ≡ false → slice_get (read_pieces flight) flight.answered ≡ Some piece
    → beats_in (answered_pieces (with_answered flight)) ≡ beats_in (answered_pieces flight) + (piece.len + 1)
answered_next flight piece reads read = rw reads (beats_in-next (read_pieces flight) flight.answered piece read)

-- a request that reads has a plan
reader_plan : (flight : LiveRequest) (k : ℕ) (piece : Piece) → slice_get (read_pieces flight) k ≡ Some piece → (range : PlannedRange) × (flight.plan ≡ Some range)
reader_plan flight k piece found = grind arith

-- the request that holds the ID of an R: it reads, and this is the next beat of the oldest of its bursts that aren't answered, of which some
-- came; its flag `last` is right; and its place among all reads of the request is one of those
pub record IsReader (state : BridgeState) (r : RBeat) (request : BridgedRequest) (piece : Piece) (rest : List Piece) : Type 0 where
  pub holder : IsHolder state.requests r.id request
  pub reads : request.flight.writing ≡ false
  pub first : outstanding request.flight ≡ piece ∷ rest
  pub next : IsNextOf (planned request.flight) request.flight.answered request.flight.sent piece rest
  pub found : find (read_of_id r.id) state.open_bursts.reads ≡ Some (open_read r.id (came_of_next request) piece)
  pub last : r.last ≡ (came_of_next request == piece.len)
  pub few : came_of_next request ≤ piece.len
  pub more : beats_in (answered_pieces (with_answered request.flight)) ≡ beats_in (answered_pieces request.flight) + (piece.len + 1)
  pub place : request.gathering.came < reads_of state.requests.config.axi_bytes (outline_in request)

pub record FindsReader (state : BridgeState) (r : RBeat) : Type 0 where
  pub request : BridgedRequest
  pub piece : Piece
  pub rest : List Piece
  pub reader : IsReader state r request piece rest

part_of_read : (own : Bool) (came : ℕ) (pieces rest : List Piece) (piece : Piece) → own ≡ false → pieces ≡ piece ∷ rest → IsPartWay own came pieces → came ≤ piece.len
part_of_read own came pieces rest piece reads is part = rw (reads, is) at part

pub reader_known : (state : BridgeState) (r : RBeat) (request : BridgedRequest) (piece : Piece) (rest : List Piece) → IsSoundBridge state → IsHolder state.requests r.id request
    → request.flight.writing ≡ false → outstanding request.flight ≡ piece ∷ rest → find (read_of_id r.id) state.open_bursts.reads ≡ Some (open_read r.id (came_of_next request) piece)
    → r.last ≡ (came_of_next request == piece.len) → IsReader state r request piece rest
reader_known state r request piece rest sound known reads first found last =
    let flight = request.flight in
    let next = part-next (planned flight) flight.answered flight.sent piece rest first in
    let read = rw reads at next.at in
    let few : came_of_next request ≤ piece.len = part_of_read flight.writing (came_of_next request) (outstanding flight) rest piece reads first known.served.next in
    let (range, planned_so) = reader_plan flight flight.answered piece read in
    let counted = reads_counted state.requests.config state.requests.regions request range sound.requests.config known.served.pages known.served planned_so in
    let within = answered_least (with_answered flight) in
    let more = answered_next flight piece reads read in
    let place : request.gathering.came < reads_of state.requests.config.axi_bytes (outline_in request) = omega (arith, known.served.came, few, counted, within, more) in
    assumption

pub finds_reader : (state : BridgeState) (r : RBeat) → IsSoundBridge state → r_fault state r ≡ None → FindsReader state r
finds_reader state r sound none =
    let finds = finds_read (axi_port_of state.requests.config) state.open_bursts r none in
    let reads = drop 1 (filter (read_of_id r.id) state.open_bursts.reads) in
    let listed : reads_held r.id (holder r.id state.requests.live) ≡ finds.read ∷ reads =
    sym (sound.linked r.id).reads ∙ filter-found (read_of_id r.id) state.open_bursts.reads finds.read finds.found in
    let (request, is) = present (holder r.id state.requests.live) (grind (arith, listed)) in
    let flight = request.flight in
    let mine : open_reads r.id flight.writing (came_of_next request) (outstanding flight) ≡ finds.read ∷ reads = rw is at listed in
    let first = next_read r.id flight.writing (came_of_next request) (outstanding flight) finds.read reads mine in
    let opened = sym (reads_are r.id flight.writing (came_of_next request) (outstanding flight) (first.piece ∷ first.rest) first.on first.is) ∙ mine in
    let same : open_read r.id (came_of_next request) first.piece ≡ finds.read = cc (opened) in
    let flag : r.last ≡ (came_of_next request == first.piece.len) = finds.last ∙ ap (λ (o : OpenRead). o.came == o.ar.len) (sym same) in
    let known = holder_known state.requests r.id request sound.requests is in
    let reader = reader_known state r request first.piece first.rest sound known first.on first.is (finds.found ∙ ap Some (sym same)) flag in
    record { request = request; piece = first.piece; rest = first.rest; reader = reader }
