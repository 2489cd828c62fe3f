-- What an accepted request, a taken reply and a sent burst leave of the link between outstanding bursts and live requests.
use Rattle.std.proofs.Common.{◌≡◌, ℕ, false, List, [], ◌∷◌, ◌++◌, None, refl}
use Rattle.std.specs.List.{AllByRecursion}
use Rattle.std.proofs.lemmas.Bool.{and_parts}
use Rattle.bus_words.proofs.MappedPlaces.{all-mapped}
use Rattle.bus_words.proofs.FoundChanges.{find-append-fails, find-without_first}
use Rattle.flight_table.specs.Laws.{IsSoundRequest}
use Rattle.axi_checker.specs.OpenBursts.{OpenBursts}
use Rattle.bridge_core.specs.Laws.{AreLinked, IsLinked, IsSoundRequestTable}
use Rattle.bridge_core.specs.HeldRequests.{BridgedRequest, RequestTable, flight_table_of, holder, holds, is_done_for, without_done}

-- ---- who holds an ID

-- a link depends on the holder alone
linked-same : (id : ℕ) (live after : List BridgedRequest) (open_bursts : OpenBursts) → holder id after ≡ holder id live → IsLinked id live open_bursts → IsLinked id after open_bursts
linked-same id live after open_bursts same linked = record { writes = cc (same, linked.writes); reads = cc (same, linked.reads) }

-- a request without an ID holds none
pub no_holder : (id : ℕ) (request : BridgedRequest) → request.flight.id ≡ None → holds id request ≡ false
no_holder id request none = rw none refl

-- an accepted request holds no ID
pub linked_accepted : (live : List BridgedRequest) (request : BridgedRequest) (open_bursts : OpenBursts) → request.flight.id ≡ None → AreLinked live open_bursts → AreLinked (live ++ request ∷ []) open_bursts
linked_accepted live request open_bursts none linked id =
    linked-same id live (live ++ request ∷ []) open_bursts (find-append-fails (holds id) live request (no_holder id request none)) (linked id)

-- ---- a reply is taken

-- each request of a sound table is sound
pub sound_requests : (table : RequestTable) → IsSoundRequestTable table
    → AllByRecursion (λ (request : BridgedRequest). IsSoundRequest (flight_table_of table).limits table.accepted request.flight) table.live
sound_requests table sound =
    all-mapped (IsSoundRequest (flight_table_of table).limits table.accepted) (λ (request : BridgedRequest). request.flight) table.live sound.flights.requests

pub linked_taken : (client : ℕ) (table : RequestTable) (open_bursts : OpenBursts) → IsSoundRequestTable table → AreLinked table.live open_bursts → AreLinked (without_done client table).live open_bursts
linked_taken client table open_bursts sound linked id =
    linked-same id table.live (without_done client table).live open_bursts
    (find-without_first (λ (request : BridgedRequest). IsSoundRequest (flight_table_of table).limits table.accepted request.flight) (holds id) (is_done_for client) table.live
    (λ request each done. no_holder id request (each.freed (and_parts _ _ done).1))
    (sound_requests table sound))
    (linked id)
