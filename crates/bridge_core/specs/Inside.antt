-- How a bridge keeps its live requests: their places in the order of bursts in a table, and in the slot of each one's key what it asks and was told.
use Rattle.std.specs.Prelude.{ℕ, ◌≡◌, ◌+◌, ◌%◌, ◌^◌, ◌<◌, ◌≤◌, ◌==◌, Bool, true, false, ◌&&◌, not, List, [], ◌∷◌, map, find, length, Option, Some, None, suc, ⊤, unwrap_or, if◌then◌else◌, nat_le, slice_get, slice_index_or, Result, Ok, Err}
use Rattle.std.specs.List.{AllByRecursion, range_with_len}
use Rattle.tl_messages.specs.Operations.{beats_of, has_data}
use Rattle.tl_messages.specs.Requests.{HeldMessage, request_of}
use Rattle.tl_messages.specs.declared.AtomicOp.{AtomicOp}
use Rattle.tl_messages.specs.declared.Operation.TheVariants.{Atomic, Get}
use Rattle.axi_beats.specs.declared.RBeat.{RBeat}
use Rattle.axi_beats.specs.declared.Resp.{Resp}
use Rattle.burst_plan.specs.Pieces.{PlannedRange, pieces}
use Rattle.burst_plan.specs.declared.Piece.{Piece}
use Rattle.burst_plan.specs.declared.Region.{Region}
use Rattle.flight_table.specs.LiveRequests.{LiveRequest, finished, reads_then_writes, is_settled, planned, with_answered, with_write}
use Rattle.flight_table.specs.Laws.{IsSound}
use Rattle.flight_table.specs.Tables.{KeyedRequest, KeyedTable, has_room, is_busy, request_at}
use Rattle.responses.specs.Gathered.{Gathering, after_b, after_r, old_value, outline_of, reads_of}
use Rattle.axi_checker.specs.OpenBursts.{OpenBursts}
use Rattle.tl_checker.specs.Ports.{PortState, opening_port}
use Rattle.tl_checker.specs.declared.Progress.{Progress}
use Rattle.tl_checker.specs.declared.Progress.TheVariants.{More, Whole}
use Rattle.tl_checker.specs.declared.TlRule.{TlRule}
use Rattle.bridge_core.specs.Bridge.{StockedBridge}
use Rattle.config.specs.Configs.{port_of}
use Rattle.bridge_core.specs.HeldRequests.{table_limits_of, BridgedRequest, RequestTable, flight_table_of, outline_in}
use Rattle.bridge_core.specs.Laws.{answered_pieces, beats_in}
use Rattle.bridge_core.specs.Sending.{bytes_written}
use Rattle.config.specs.declared.Config.{Config}
use Rattle.bridge_core.specs.declared.Offered.{Offered}
use Rattle.bridge_core.specs.declared.Offered.TheVariants.{Exhausted, NotReady}

-- what is kept of a live request beside the table: its message, and what was gathered for its reply over a bus of so many bytes
pub record HeldRequest : Type 0 where
  pub message : HeldMessage
  pub bus_bytes : ℕ
  pub gathering : Gathering

abbrev pub bridged : LiveRequest → HeldRequest → BridgedRequest
bridged flight held = record { flight = flight; message = held.message; gathering = held.gathering }

-- what stands in where there is no slot
abbrev pub nothing_held : HeldRequest
nothing_held =
    record {
      message = record { client = 0; source = 0; operation = Get; size = 0; address = 0; corrupt = false; beats = [] };
      bus_bytes = 0;
      gathering = record { came = 0; denied = false; words = [] };
    }

-- what is kept in the slot of a key
abbrev pub held_in : List HeldRequest → ℕ → HeldRequest
held_in helds key = slice_index_or helds key nothing_held

-- the old value of an atomic, if it was found, and the bytes that are to be written
abbrev pub value_held : HeldRequest → Option ℕ
value_held held = old_value (outline_of (request_of held.message)) held.gathering

abbrev pub bytes_held : HeldRequest → List (Option ℕ)
bytes_held held = bytes_written (request_of held.message) held.message.operation (unwrap_or (value_held held) 0)

-- a piece of a plan can be filled: the message has data and all its beats, of which an atomic has one, over a range of the same bytes in the
-- same lanes
pub record CanFill (held : HeldRequest) (range : PlannedRange) (piece : Piece) : Type 0 where
  pub listed : (k : ℕ) × (slice_get (pieces range) k ≡ Some piece)
  pub carries : has_data held.message.operation ≡ true
  pub beats : length held.message.beats ≡ beats_of held.message.size true
  pub size : held.message.size ≡ range.size
  pub lanes : held.message.address % 8 ≡ range.address % 8
  pub aligned : held.message.address % 2 ^ held.message.size ≡ 0
  pub atomic_size : (op : AtomicOp) → held.message.operation ≡ Atomic op → held.message.size ≤ 3

-- the live requests, each with what is kept in the slot of its key
abbrev pub with_held : List HeldRequest → KeyedRequest → BridgedRequest
with_held helds entry = bridged entry.request (held_in helds entry.key)

abbrev pub joined : List HeldRequest → List KeyedRequest → List BridgedRequest
joined helds entries = map (with_held helds) entries

-- what is kept of a request after the response to one of its writes, and after the next beat of its read
abbrev pub responded : Resp → HeldRequest → HeldRequest
responded resp held = record held { gathering = after_b resp held.gathering }

abbrev pub beat_held : RBeat → HeldRequest → HeldRequest
beat_held r held = record held { gathering = after_r held.bus_bytes (outline_of (request_of held.message)) r held.gathering.came held.gathering }

-- a request that isn't done, and whose old value can be found only where it is an atomic
pub record IsUndone (found : Bool) (flight : LiveRequest) : Type 0 where
  pub live : flight.done ≡ false
  pub atomic : found ≡ true → reads_then_writes flight ≡ true

-- where all planned answers came, by whether the old value of an atomic is found
abbrev pub settled_flight : Bool → LiveRequest → LiveRequest
settled_flight found flight =
    if is_settled flight then (if not flight.writing && found then with_write flight else finished flight) else flight

-- after a whole answer to one of its bursts
abbrev pub answered_flight : Bool → LiveRequest → LiveRequest
answered_flight found flight = settled_flight found (with_answered flight)

-- a request whose next unanswered burst is a write, or a read
pub record AwaitsAnswer (write : Bool) (request : BridgedRequest) : Type 0 where
  pub side : request.flight.writing ≡ write
  pub piece : Piece
  pub live : request.flight.done ≡ false
  pub unanswered : request.flight.answered < request.flight.sent
  pub next : slice_get (planned request.flight) request.flight.answered ≡ Some piece

-- a request to which a read beat belongs: it is the next of the first unanswered burst
pub record AwaitsBeat (bus_bytes : ℕ) (r : RBeat) (request : BridgedRequest) : Type 0 where
  pub awaits : AwaitsAnswer false request
  pub beats : ℕ
  pub came : request.gathering.came ≡ beats_in (answered_pieces request.flight) + beats
  pub within : beats ≤ awaits.piece.len
  pub last : r.last ≡ (beats == awaits.piece.len)
  pub place : request.gathering.came < reads_of bus_bytes (outline_in request)

-- ---- the table

-- what a table of live requests keeps: their places in the order of bursts by key, and in the slot of each key what is kept beside
pub record KeptTable : Type 0 where
  pub config : Config
  pub regions : List Region
  pub flight : KeyedTable
  pub helds : List HeldRequest

abbrev pub kept_table : Config → List Region → KeyedTable → List HeldRequest → KeptTable
kept_table config regions flight helds = record { config = config; regions = regions; flight = flight; helds = helds }

abbrev pub shown_table : KeptTable → RequestTable
shown_table kept = record { config = kept.config; regions = kept.regions; accepted = kept.flight.accepted; live = joined kept.helds kept.flight.entries }

-- there is a slot for each of the 64 keys, over the bus of the limits
pub record IsKept (kept : KeptTable) : Type 0 where
  pub limits : kept.flight.limits ≡ table_limits_of kept.config
  pub buses : AllByRecursion (λ held. held.bus_bytes ≡ kept.config.axi_bytes) kept.helds
  pub all : length kept.helds ≡ 64

-- a key is that of the first request that passes a test
pub record IsFirstAt (test : LiveRequest → Bool) (flight : KeyedTable) (key : ℕ) : Type 0 where
  pub request : LiveRequest
  pub named : request_at key flight ≡ Some request
  pub first : find (λ entry. test entry.request) flight.entries ≡ Some (record { key = key; request = request })
  pub laws : IsSound flight

-- ---- ports

-- ports of so many clients from a number on, on which no beat has come
abbrev pub ports_from : Config → ℕ → ℕ → List PortState
ports_from config first count = map (λ client. opening_port (port_of config client)) (range_with_len first count)

-- a port for each client from a number on, within the limits, on which no whole request stands
abbrev pub ArePortsFrom : Config → ℕ → List PortState → Type 0
ArePortsFrom config first [] = ⊤
ArePortsFrom config first (port ∷ ports) = (port.limits ≡ port_of config first) × (port.whole ≡ None) × ArePortsFrom config (suc first) ports

pub record ArePorts (config : Config) (ports : List PortState) : Type 0 where
  pub count : length ports ≡ config.clients
  pub each : ArePortsFrom config 0 ports

-- a port whose whole request the table can accept
pub record CanAccept (table : RequestTable) (client : ℕ) (port : PortState) : Type 0 where
  pub message : HeldMessage
  pub whole : port.whole ≡ Some message
  pub limits : port.limits ≡ port_of table.config client
  pub there : client < table.config.clients
  pub room : has_room (flight_table_of table) client ≡ true
  pub free : is_busy (flight_table_of table) client message.source ≡ false
  pub number : table.accepted < 2 ^ 48

-- why a request of a client can't be accepted now, if it can't
abbrev pub no_place : RequestTable → ℕ → Option Offered
no_place table client =
    if has_room (flight_table_of table) client then (if nat_le (2 ^ 48) table.accepted then Some Exhausted else None) else Some NotReady

-- why a beat of which a port says this has to wait
abbrev pub held_back : RequestTable → ℕ → Result Progress TlRule → Option Offered
held_back table client (Err rule) = None
held_back table client (Ok More) = None
held_back table client (Ok Whole) = no_place table client

abbrev pub bridge_kept : List PortState → RequestTable → OpenBursts → ℕ → StockedBridge
bridge_kept ports requests open_bursts stock =
    record { state = record { fronts = map (λ port. port.front) ports; requests = requests; open_bursts = open_bursts }; stock = stock }
