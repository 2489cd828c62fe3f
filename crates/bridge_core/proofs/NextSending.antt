-- What is known of the burst that goes next, and when one goes.
use Rattle.std.proofs.Common.{◌≡◌, ℕ, true, is_some, get_or, Option, Some, None, refl, sym, subst, arith}
use Rattle.std.specs.Prelude.{option_map}
use Rattle.std.specs.List.{find}
use Rattle.std.proofs.lemmas.Option.{option_and_then_some, slice_get-get_or}
use Rattle.bus_words.proofs.PlaceChanges.{all-find, find-passes}
use Rattle.bus_words.proofs.MappedPlaces.{map_some}
use Rattle.axi_beats.specs.Bursts.{Burst}
use Rattle.burst_plan.specs.Pieces.{PlannedRange}
use Rattle.burst_plan.specs.declared.Piece.{Piece}
use Rattle.flight_table.specs.Laws.{IsSoundRequest}
use Rattle.flight_table.specs.LiveRequests.{next_piece, planned}
use Rattle.flight_table.specs.Order.{id_for}
use Rattle.flight_table.proofs.Steps.{IsReady, ready_parts}
use Rattle.bridge_core.specs.HeldRequests.{table_limits_of, BridgedRequest, RequestTable, flight_table_of, flights_of, may_send}
use Rattle.bridge_core.specs.Laws.{IsServed, IsSoundRequestTable}
use Rattle.bridge_core.specs.Sending.{Sending, burst_for, burst_of_piece, next_sending, sending_of}
use Rattle.bridge_core.proofs.SendingLinks.{sound_requests}

-- a request that may send, the ID and the burst with which it sends, and the piece of its plan that this is
pub record IsNext (table : RequestTable) (sending : Sending) : Type 0 where
  pub range : PlannedRange
  pub piece : Piece
  pub found : find (may_send table) table.live ≡ Some sending.request
  pub id : id_for (table_limits_of table.config) (flights_of table.live) sending.request.flight ≡ Some sending.id
  pub of_request : burst_for sending.id sending.request ≡ Some sending.burst
  pub plan : sending.request.flight.plan ≡ Some range
  pub next : next_piece sending.request.flight ≡ Some piece
  pub burst : sending.burst ≡ burst_of_piece sending.id sending.request range piece
  pub ready : IsReady (flight_table_of table) sending.request.flight

abbrev pub sending_with : BridgedRequest → ℕ → Burst → Sending
sending_with request id burst = record { request = request; id = id; burst = burst }

next_parts : (table : RequestTable) (request : BridgedRequest) (id : ℕ) (burst : Burst) → find (may_send table) table.live ≡ Some request
    → id_for (table_limits_of table.config) (flights_of table.live) request.flight ≡ Some id → burst_for id request ≡ Some burst → IsNext table (sending_with request id burst)
next_parts table request id burst found id_is is =
    option_and_then_some (λ range. option_map (burst_of_piece id request range) (next_piece request.flight)) request.flight.plan burst is
    (λ range plan made. map_some (burst_of_piece id request range) (next_piece request.flight) burst made
    (λ piece next same. record {
      range = range;
      piece = piece;
      found = found;
      id = id_is;
      of_request = is;
      plan = plan;
      next = next;
      burst = sym same;
      ready = ready_parts (flight_table_of table) request.flight (find-passes (may_send table) table.live request found);
    }))

pub next_found : (table : RequestTable) (sending : Sending) → next_sending table ≡ Some sending → IsNext table sending
next_found table sending is =
    option_and_then_some (sending_of table) (find (may_send table) table.live) sending is
    (λ request found made. option_and_then_some (λ id. option_map (sending_with request id) (burst_for id request)) (id_for (table_limits_of table.config) (flights_of table.live) request.flight) sending made
    (λ id id_is with_id. map_some (sending_with request id) (burst_for id request) sending with_id
    (λ burst burst_is same. subst (IsNext table) same (next_parts table request id burst found id_is burst_is))))

-- it is sound and served, as each live request
pub next_sound : (table : RequestTable) (sending : Sending) → IsSoundRequestTable table → IsNext table sending → IsSoundRequest (table_limits_of table.config) table.accepted sending.request.flight
next_sound table sending sound next =
    all-find (λ (r : BridgedRequest). IsSoundRequest (table_limits_of table.config) table.accepted r.flight) (may_send table) table.live sending.request (sound_requests table sound) next.found

pub next_served : (table : RequestTable) (sending : Sending) → IsSoundRequestTable table → IsNext table sending → IsServed table.config table.regions sending.request
next_served table sending sound next = all-find (IsServed table.config table.regions) (may_send table) table.live sending.request sound.served next.found

-- no request may send, so nothing goes
pub next_sending-none : (table : RequestTable) → find (may_send table) table.live ≡ None → next_sending table ≡ None
next_sending-none table none = rw none refl

-- a request may send, so a burst goes
abbrev pub IsPresent : {X : Type 0} → Option X → Type 0
IsPresent {X = X} o = (x : X) × (o ≡ Some x)

pub present : {X : Type 0} (o : Option X) → is_some o ≡ true → IsPresent o
present o some = grind arith

pub sends : (table : RequestTable) (request : BridgedRequest) (id : ℕ) (range : PlannedRange) (piece : Piece) → find (may_send table) table.live ≡ Some request
    → id_for (table_limits_of table.config) (flights_of table.live) request.flight ≡ Some id → request.flight.plan ≡ Some range → next_piece request.flight ≡ Some piece
    → next_sending table ≡ Some (sending_with request id (burst_of_piece id request range piece))
sends table request id range piece found id_is plan next = grind (arith, found, id_is, plan, next)

pub next_sending-some : (table : RequestTable) (request : BridgedRequest) → IsSoundRequestTable table → find (may_send table) table.live ≡ Some request
    → (sending : Sending) × (next_sending table ≡ Some sending)
next_sending-some table request sound found =
    let ready = ready_parts (flight_table_of table) request.flight (find-passes (may_send table) table.live request found) in
    let each = all-find (λ (r : BridgedRequest). IsSoundRequest (flight_table_of table).limits table.accepted r.flight) (may_send table) table.live request (sound_requests table sound) found in
    let (range, plan) = present request.flight.plan (grind (arith, each.no_plan, ready.undone)) in
    let (id, id_is) = present (id_for (table_limits_of table.config) (flights_of table.live) request.flight) ready.some in
    let piece = get_or (planned request.flight) request.flight.sent (record { address = 0; len = 0; size = 0 }) in
    let next = slice_get-get_or (planned request.flight) request.flight.sent (record { address = 0; len = 0; size = 0 }) ready.more in
    (sending_with request id (burst_of_piece id request range piece), sends table request id range piece found id_is plan next)
