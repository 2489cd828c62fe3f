-- What is true of every bridge that the calls make (this project's profile).
use Rattle.std.specs.Prelude.{ℕ, ◌≡◌, ◌+◌, ◌-◌, ◌≤◌, Bool, true, false, List, [], ◌∷◌, length, map, drop, take, filter, Option, Some, None, IfSome, IsSome, sum_by, if◌then◌else◌}
use Rattle.std.specs.List.{AllByRecursion}
use Rattle.tl_messages.specs.Requests.{HeldMessage, request_of}
use Rattle.tl_checker.specs.Sound.{IsSound}
use Rattle.axi_checker.specs.OpenBursts.{OpenBursts, OpenRead, OpenWrite, read_of_id, write_of_id, write_to_fill}
use Rattle.burst_plan.specs.declared.Piece.{Piece}
use Rattle.flight_table.specs.Laws.{IsSoundTable}
use Rattle.flight_table.specs.LiveRequests.{LiveRequest, reads_then_writes, is_settled, plan_for, planned, read_pieces}
use Rattle.burst_plan.specs.PageMap.{IsPageMap}
use Rattle.burst_plan.specs.declared.Region.{Region}
use Rattle.flight_table.specs.Tables.{is_busy}
use Rattle.bridge_core.specs.Bridge.{BridgeState, front_of}
use Rattle.config.specs.Configs.{is_valid, port_of}
use Rattle.bridge_core.specs.HeldRequests.{BridgedRequest, RequestTable, flight_table_of, holder, range_of, value_found}
use Rattle.config.specs.declared.Config.{Config}

-- the transfers of bursts
abbrev pub beats_in : List Piece → ℕ
beats_in pieces = sum_by (λ piece. piece.len + 1) pieces

-- the pieces of a request's read that were answered whole: all of them, once it writes
abbrev pub answered_pieces : LiveRequest → List Piece
answered_pieces flight = if flight.writing then read_pieces flight else take flight.answered (read_pieces flight)

-- the pieces of the bursts that a request has sent and that aren't answered whole
abbrev pub outstanding : LiveRequest → List Piece
outstanding flight = drop flight.answered (take flight.sent (planned flight))

-- how many beats came of the first of them, where it is a read
abbrev pub came_of_next : BridgedRequest → ℕ
came_of_next request = request.gathering.came - beats_in (answered_pieces request.flight)

-- how far the read is that is answered next: some of its beats are to come; where no read is outstanding none came
abbrev pub IsPartWay : Bool → ℕ → List Piece → Type 0
IsPartWay true came pieces = came ≡ 0
IsPartWay false came [] = came ≡ 0
IsPartWay false came (piece ∷ pieces) = came ≤ piece.len

-- a request's place in the order is that of its message
pub record IsOfMessage (config : Config) (regions : List Region) (request : BridgedRequest) : Type 0 where
  pub client : request.flight.client ≡ request.message.client
  pub source : request.flight.source ≡ request.message.source
  pub operation : request.flight.operation ≡ request.message.operation
  pub plan : request.flight.plan ≡ plan_for request.message.operation (range_of config regions (request_of request.message))

-- a live request: it was accepted over a page map, and its message is one that its client's port takes; it is done exactly when all its
-- planned answers came; an atomic goes on to write exactly where its whole read was answered and found the old
-- value; and the reads that came are those of the bursts that were answered, and of the next one some, but not all
pub record IsServed (config : Config) (regions : List Region) (request : BridgedRequest) : Type 0 where
  pub pages : IsPageMap regions
  pub message : IsSound (port_of config request.message.client) request.message
  pub flight : IsOfMessage config regions request
  pub done : request.flight.done ≡ is_settled request.flight
  pub found : reads_then_writes request.flight ≡ true → request.flight.writing ≡ true → request.flight.done ≡ false → IsSome (value_found request)
  pub failed : reads_then_writes request.flight ≡ true → request.flight.writing ≡ false → request.flight.done ≡ true → value_found request ≡ None
  pub came : beats_in (answered_pieces request.flight) ≤ request.gathering.came
  pub next : IsPartWay request.flight.writing (came_of_next request) (outstanding request.flight)

-- the requests of a table keep to its limits and to the order of acceptance, and are each served
pub record IsSoundRequestTable (table : RequestTable) : Type 0 where
  pub config : is_valid table.config ≡ true
  pub flights : IsSoundTable (flight_table_of table)
  pub served : AllByRecursion (IsServed table.config table.regions) table.live

-- ---- the outstanding bursts are those of the live requests

-- a piece under an ID as a port sees it: a write that waits for its B, and a read of which some beats came
abbrev pub open_write : ℕ → Piece → OpenWrite
open_write id piece =
    record { aw = record { id = id; address = piece.address; len = piece.len; size = piece.size; burst = 1 }; came = piece.len + 1 }

abbrev pub open_read : ℕ → ℕ → Piece → OpenRead
open_read id came piece = record { ar = record { id = id; address = piece.address; len = piece.len; size = piece.size; burst = 1 }; came = came }

-- pieces of a side, true for writes, as it sees them: the writes, and the reads, of the first of which some beats came
abbrev pub open_writes : ℕ → Bool → List Piece → List OpenWrite
open_writes id write pieces = if write then map (open_write id) pieces else []

abbrev pub open_reads : ℕ → Bool → ℕ → List Piece → List OpenRead
open_reads id true came pieces = []
open_reads id false came [] = []
open_reads id false came (piece ∷ pieces) = open_read id came piece ∷ open_reads id false 0 pieces

-- the outstanding bursts of a holder
abbrev pub writes_held : ℕ → Option BridgedRequest → List OpenWrite
writes_held id None = []
writes_held id (Some request) = open_writes id request.flight.writing (outstanding request.flight)

abbrev pub reads_held : ℕ → Option BridgedRequest → List OpenRead
reads_held id None = []
reads_held id (Some request) = open_reads id request.flight.writing (came_of_next request) (outstanding request.flight)

-- the outstanding bursts of an ID are those of the request that holds it, in the order sent: so the next answer under an ID belongs to the
-- oldest unanswered burst of that request, and its place among the reads is the number of those that came
pub record IsLinked (id : ℕ) (live : List BridgedRequest) (open_bursts : OpenBursts) : Type 0 where
  pub writes : filter (write_of_id id) open_bursts.writes ≡ writes_held id (holder id live)
  pub reads : filter (read_of_id id) open_bursts.reads ≡ reads_held id (holder id live)

abbrev pub AreLinked : List BridgedRequest → OpenBursts → Type 0
AreLinked live open_bursts = (id : ℕ) → IsLinked id live open_bursts

-- ---- the messages that have begun

-- a message that a client has begun: no live request of the client has its source
pub record IsFreeFront (table : RequestTable) (of : ℕ) (message : HeldMessage) : Type 0 where
  pub client : message.client ≡ of
  pub source : is_busy (flight_table_of table) of message.source ≡ false

-- all that is kept
pub record IsSoundBridge (state : BridgeState) : Type 0 where
  pub requests : IsSoundRequestTable state.requests
  pub fronts : length state.fronts ≡ state.requests.config.clients
  pub free : (client : ℕ) → IfSome (front_of state client) (IsFreeFront state.requests client)
  pub linked : AreLinked state.requests.live state.open_bursts
  pub filled : write_to_fill state.open_bursts ≡ None
