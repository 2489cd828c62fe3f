-- The burst that goes next, found with what is kept of its request, and what its sending changes.
use Rattle.std.proofs.Common.{◌≡◌, ◌<◌, ℕ, ◌%◌, Bool, true, List, Some, None, IsSome, refl, sym, ◌∙◌, ap, subst, arith}
use Rattle.std.specs.Prelude.{IfSome, option_map}
use Rattle.std.specs.List.{find}
use Rattle.std.proofs.lemmas.List.{set-get_or}
use Rattle.std.proofs.lemmas.Option.{same_Some}
use Rattle.bus_words.proofs.PlaceChanges.{all-find}
use Rattle.tl_messages.specs.Operations.{beats_of, has_data}
use Rattle.burst_plan.specs.Pieces.{PlannedRange}
use Rattle.burst_plan.specs.declared.Piece.{Piece}
use Rattle.burst_plan.proofs.TranslationLaws.{same_byte-mod}
use Rattle.flight_table.specs.Laws.{IsSound}
use Rattle.flight_table.specs.LiveRequests.{LiveRequest, next_piece, with_sent}
use Rattle.flight_table.specs.Order.{id_for, is_ready}
use Rattle.flight_table.specs.Tables.{FlightTable, KeyedRequest, KeyedTable, change_key, has_number, request_at, requests_of, table_of}
use Rattle.bridge_core.specs.Inside.{CanFill, HeldRequest, IsFirstAt, IsKept, KeptTable, bridged, held_in, nothing_held, shown_table}
use Rattle.bridge_core.specs.Laws.{IsServed, IsSoundRequestTable}
use Rattle.bridge_core.specs.HeldRequests.{BridgedRequest, RequestTable, after_sending, may_send, with_sent_burst}
use Rattle.bridge_core.specs.Sending.{burst_of_piece, next_sending}
use Rattle.bridge_core.proofs.TableSteps.{none_joined, IsChanged, Shows, changed_table, numbered, shown_at, table_seen}
use Rattle.bridge_core.proofs.NextSending.{next_sending-none, sends}
use Rattle.bridge_core.proofs.ReadCounts.{range_served}
use Rattle.bridge_core.proofs.SentBursts.{piece_of_plan}
use Rattle.bridge_core.proofs.ServedRequests.{served_sent}

-- ---- whether a request is ready

pub none_ready : (kept : KeptTable) (table : RequestTable) → shown_table kept ≡ table → IsKept kept → find (is_ready (table_of kept.flight)) (requests_of kept.flight.entries) ≡ None → next_sending table ≡ None
none_ready kept table view is none =
    rw (← view)
    (next_sending-none (shown_table kept) (subst (λ (t : FlightTable). find (λ (b : BridgedRequest). is_ready t b.flight) (shown_table kept).live ≡ None) (table_seen kept is)
    (none_joined (is_ready (table_of kept.flight)) kept.helds kept.flight.entries none)))

ready_found : (kept : KeptTable) (key : ℕ) → IsKept kept → (at : IsFirstAt (is_ready (table_of kept.flight)) kept.flight key)
    → find (may_send (shown_table kept)) (shown_table kept).live ≡ Some (bridged at.request (held_in kept.helds key))
ready_found kept key is at =
    subst (λ (t : FlightTable). find (λ (b : BridgedRequest). is_ready t b.flight) (shown_table kept).live ≡ Some (bridged at.request (held_in kept.helds key))) (table_seen kept is)
    (shown_at (is_ready (table_of kept.flight)) kept key at)

pub some_ready : (kept : KeptTable) (table : RequestTable) (key : ℕ) → shown_table kept ≡ table → IsKept kept → IsFirstAt (is_ready (table_of kept.flight)) kept.flight key → IsSome (find (may_send table) table.live)
some_ready kept table key view is at = rw (← view, ready_found kept key is at) refl

-- ---- the burst that goes next

-- what is told of the request at a key: its plan, whether it writes, its next piece, and the ID for its burst
pub record IsTold (flight : KeyedTable) (key : ℕ) (range : PlannedRange) (write : Bool) (piece : Piece) (id : ℕ) : Type 0 where
  pub plan_is : option_map (λ r. r.plan) (request_at key flight) ≡ Some (Some range)
  pub write_is : IfSome (request_at key flight) (λ r. r.writing ≡ write)
  pub piece_is : IfSome (request_at key flight) (λ r. next_piece r ≡ Some piece)
  pub id_is : IfSome (request_at key flight) (λ r. id_for flight.limits (table_of flight).live r ≡ Some id)

-- the request that goes next, with what is kept of it
pub record IsGoing (kept : KeptTable) (key : ℕ) (range : PlannedRange) (write : Bool) (piece : Piece) (id : ℕ) : Type 0 where
  pub request : LiveRequest
  pub named : request_at key kept.flight ≡ Some request
  pub served : IsServed kept.config kept.regions (bridged request (held_in kept.helds key))
  pub plan : request.plan ≡ Some range
  pub writes : request.writing ≡ write
  pub next : next_piece request ≡ Some piece
  pub sending : next_sending (shown_table kept)
      ≡ Some (record { request = bridged request (held_in kept.helds key); id = id; burst = burst_of_piece id (bridged request (held_in kept.helds key)) range piece })

pub going : (kept : KeptTable) (key : ℕ) (range : PlannedRange) (write : Bool) (piece : Piece) (id : ℕ) → IsKept kept → IsSoundRequestTable (shown_table kept) → IsFirstAt (is_ready (table_of kept.flight)) kept.flight key
    → IsTold kept.flight key range write piece id → IsGoing kept key range write piece id
going kept key range write piece id is sound at told =
    let table = shown_table kept in
    let one = bridged at.request (held_in kept.helds key) in
    let found = ready_found kept key is at in
    let plan : at.request.plan ≡ Some range = same_Some at.request.plan (Some range) (rw at.named at told.plan_is) in
    let next : next_piece at.request ≡ Some piece = rw at.named at told.piece_is in
    let id_is = subst (λ (t : FlightTable). id_for t.limits t.live at.request ≡ Some id) (table_seen kept is) (rw at.named at told.id_is) in
    record {
      request = at.request;
      named = at.named;
      served = all-find (IsServed kept.config kept.regions) (may_send table) table.live one sound.served found;
      plan = plan;
      writes = rw at.named at told.write_is;
      next = next;
      sending = sends table one id range piece found id_is plan next;
    }

-- ---- a write can be filled

-- only what has data writes
writes_data : (flight : LiveRequest) (piece : Piece) → flight.writing ≡ true → next_piece flight ≡ Some piece → has_data flight.operation ≡ true
writes_data flight piece writes next = grind (arith, next, writes)

pub can_fill : (kept : KeptTable) (key : ℕ) (range : PlannedRange) (piece : Piece) (id : ℕ) → IsGoing kept key range true piece id → CanFill (held_in kept.helds key) range piece
can_fill kept key range piece id goes =
    let held = held_in kept.helds key in
    let of = range_served kept.config kept.regions (bridged goes.request held) range goes.served goes.plan in
    let carries : has_data held.message.operation ≡ true = ap has_data (sym goes.served.flight.operation) ∙ writes_data goes.request piece goes.writes goes.next in
    record {
      listed = (goes.request.sent, piece_of_plan goes.request range goes.request.sent piece goes.plan goes.next);
      carries = carries;
      beats = goes.served.message.beats ∙ ap (λ b. beats_of held.message.size b) carries;
      size = sym (ap (λ (p : PlannedRange). p.size) of.is);
      lanes = sym (same_byte-mod held.message.address of.address 3 (omega arith) of.leads.same_byte) ∙ sym (ap (λ (p : PlannedRange). p.address % 8) of.is);
      aligned = goes.served.message.aligned;
      atomic_size = goes.served.message.atomic_size;
    }

-- ---- the table after it

abbrev pub IsSentTable : KeptTable → KeptTable → ℕ → ℕ → Type 0
IsSentTable old new number id = Shows new (with_sent_burst number id (shown_table old))

pub sent_table : (old : KeptTable) (flight : KeyedTable) (key id : ℕ) → IsKept old → IsSoundRequestTable (shown_table old) → (at : IsFirstAt (is_ready (table_of old.flight)) old.flight key) → key < 64
    → flight ≡ change_key key (with_sent id) old.flight → IsSound flight → IsSentTable old (record old { flight = flight }) at.request.number id
sent_table old flight key id kept sound at few is laws =
    let r = at.request in
    let first = numbered (λ (e : KeyedRequest). is_ready (table_of old.flight) e.request) old.flight.entries (record { key = key; request = r }) at.laws.table.rising at.first in
    let of_number : IsFirstAt (has_number r.number) old.flight key = record { request = r; named = at.named; first = first; laws = at.laws } in
    subst (λ (l : List HeldRequest). IsChanged old (record old { flight = flight; helds = l }) (has_number r.number) (after_sending id)) (set-get_or old.helds key nothing_held)
    (changed_table old flight (has_number r.number) key (with_sent id) (held_in old.helds key) (after_sending id) kept sound of_number few is laws
    (record { bus = refl; same = refl; served = λ served. served_sent old.config old.regions id (bridged r (held_in old.helds key)) served }))
