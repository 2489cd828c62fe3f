-- A board as it is held: of each request in flight a mask for each of its words; and the memory, whose bytes are in doubt where
-- they are indeterminate.
use Rattle.std.specs.Prelude.{ℕ, ◌≡◌, ◌+◌, ◌-◌, ◌/◌, ◌%◌, ◌^◌, ◌==◌, ⊤, Bool, true, false, ◌&&◌, ◌||◌, List, filter, length, map, Option, Some, None, is_none, max, Result, Ok, Err, IsSome, if◌then◌else◌, nat_le, nat_lt, slice_index_or}
use Rattle.std.specs.List.{AllByRecursion, list_any}
use Rattle.std.specs.Option.{option_map}
use Rattle.bus_words.specs.Lanes.{has_lane}
use Rattle.tl_messages.specs.Operations.{has_data, named_operation, operation_of, reply_has_data}
use Rattle.tl_messages.specs.Requests.{HeldMessage, request_of}
use Rattle.tl_messages.specs.declared.ABeat.{ABeat}
use Rattle.tl_messages.specs.declared.DBeat.{DBeat}
use Rattle.tl_checker.specs.RequestRules.{TlPortLimits}
use Rattle.tl_checker.specs.declared.Progress.{Progress}
use Rattle.tl_checker.specs.declared.Progress.TheVariants.{More, Whole}
use Rattle.tl_checker.specs.declared.TlRule.{TlRule}
use Rattle.axi_checker.specs.OpenBursts.{OpenBursts, read_of_id, write_of_id}
use Rattle.axi_checker.specs.Rules.{AxiPortLimits}
use Rattle.axi_checker.specs.declared.AxiBeat.{AxiBeat}
use Rattle.axi_checker.specs.declared.AxiBeat.TheVariants.{Ar as OnAr, Aw as OnAw}
use Rattle.scoreboard.specs.AxiPorts.{PortBoard}
use Rattle.scoreboard.specs.Boards.{Board, ClientBoard, acting, answer_to, tells_error}
use Rattle.scoreboard.specs.FailedBursts.{Span, answered_span}
use Rattle.scoreboard.specs.Flights.{Flights, Footprint, InFlight, each_flight, is_of_source}
use Rattle.scoreboard.specs.Unknown.{UnknownBoard}
use Rattle.serial_memory.specs.SerialMemory.{HasRoomToGive, IsCheckedRequest, IsMemoryRange, MemoryState, doubts_of, memory_of, rooms_of}
use Rattle.scoreboard.specs.declared.Errors.{Errors}
use Rattle.scoreboard.specs.declared.Errors.TheVariants.{Any, Strict}
use Rattle.scoreboard.specs.declared.Policy.{Policy}
use Rattle.scoreboard.specs.declared.Wrong.{Wrong}
use Rattle.scoreboard.specs.declared.Wrong.TheVariants.{NoClient, Request}
use Rattle.scoreboard.specs.declared.Policy.TheVariants.{AcceptanceOrder, RealTime}

-- a footprint, whose determined bytes are bits of a mask for each of its words
pub record FootprintState : Type 0 where
  pub reads : Bool
  pub writes : Bool
  pub address : ℕ
  pub size : ℕ
  pub failed : Bool
  pub determined : List ℕ

-- a request in flight
pub record FlightState : Type 0 where
  pub source : ℕ
  pub beats : List DBeat
  pub footprint : FootprintState

-- a client's requests in flight, each with room for so many words
pub record FlightsState : Type 0 where
  pub room : ℕ
  pub due : List FlightState
  pub begun : Option FlightState

-- a client
pub record ClientState : Type 0 where
  pub limits : TlPortLimits
  pub front : Option HeldMessage
  pub flights : FlightsState
  pub coming : FootprintState
  pub early : Option DBeat
  pub told : Bool

-- a board, which has one policy throughout, and one way for errors; with room for a request that came whole, and for its flight
pub record BoardState : Type 0 where
  pub policy : Policy
  pub errors : Errors
  pub clients : List ClientState
  pub memory : MemoryState
  pub axi : PortBoard
  pub request : HeldMessage
  pub joining : FlightState
  pub unknown : List (List ℕ)

-- ---- what they stand for

-- how many words 2^size bytes at a multiple of their number are in
abbrev pub words_of : ℕ → ℕ
words_of size = max 1 (2 ^ size / 8)

-- whether a byte is one of a request's, and determined
abbrev pub determined_in : FootprintState → ℕ → Bool
determined_in footprint x =
    nat_le footprint.address x && nat_lt x (footprint.address + 2 ^ footprint.size) && has_lane (slice_index_or footprint.determined (x / 8 - footprint.address / 8) 0) (x % 8)

abbrev pub footprint_of : FootprintState → Footprint
footprint_of footprint = record { reads = footprint.reads; writes = footprint.writes; address = footprint.address; size = footprint.size; failed = footprint.failed; determined = determined_in footprint }

abbrev pub flight_of : FlightState → InFlight
flight_of flight = record { source = flight.source; beats = flight.beats; footprint = footprint_of flight.footprint }

abbrev pub flights_of : FlightsState → Flights
flights_of flights = record { due = map flight_of flights.due; begun = option_map flight_of flights.begun }

abbrev pub client_of : ClientState → ClientBoard
client_of client = record { limits = client.limits; front = client.front; flights = flights_of client.flights; coming = footprint_of client.coming; early = client.early; told = client.told }

abbrev pub board_of : BoardState → Board
board_of state =
    record { clients = map client_of state.clients; memory = memory_of state.memory; indeterminate = doubts_of state.memory; axi = state.axi; errors = state.errors }

-- with what nobody knows of the messages that have begun
abbrev pub unknown_board : BoardState → UnknownBoard
unknown_board state = record { board = board_of state; lanes = state.unknown }

-- what a request that is accepted leaves as it is
pub record IsAcceptedBeside (old new : BoardState) : Type 0 where
  pub errors : new.errors ≡ old.errors
  pub request : new.request ≡ old.request
  pub unknown : new.unknown ≡ old.unknown
  pub faults : (memory_of new.memory).faults ≡ (memory_of old.memory).faults
  pub regions : (memory_of new.memory).regions ≡ (memory_of old.memory).regions
  pub rooms : rooms_of new.memory ≡ rooms_of old.memory

-- a request that came whole is a checked one, and the page of what it gives has room
pub record IsTaken (board : BoardState) : Type 0 where
  pub checked : IsCheckedRequest board.request
  pub room : HasRoomToGive board.memory (acting board.errors (request_of board.request))

-- ---- channel A

-- how far a message is with a beat, or what is wrong with it
abbrev pub taken_by : Result Progress TlRule → Result Progress Wrong
taken_by (Ok progress) = Ok progress
taken_by (Err rule) = Err (Request rule)

-- what a client's port answers to a beat on channel A: how far the message is, or what is wrong
abbrev pub request_taken : Policy → Option ClientBoard → ABeat → Result Progress Wrong
request_taken policy None beat = Err NoClient
request_taken policy (Some client) beat = taken_by (answer_to policy client beat)

-- the message that has begun after an answer, by the message with this beat
abbrev pub front_after : Option HeldMessage → HeldMessage → Result Progress TlRule → Option HeldMessage
front_after front message (Err broken) = front
front_after front message (Ok More) = Some message
front_after front message (Ok Whole) = None

-- whether a beat of the message that has begun was corrupt
abbrev pub front_corrupt : Option HeldMessage → Bool
front_corrupt None = false
front_corrupt (Some message) = message.corrupt

-- a message that has begun is of a source to which no reply is due
abbrev pub IsFrontFree : Option HeldMessage → Flights → Type 0
IsFrontFree None flights = ⊤
IsFrontFree (Some message) flights = list_any (is_of_source message.source) flights.due ≡ false

-- a client that has begun nothing, and to which no reply is due for a source
pub record IsFreeOf (source : ℕ) (client : ClientBoard) : Type 0 where
  pub front : client.front ≡ None
  pub free : list_any (is_of_source source) client.flights.due ≡ false

-- a message is one to which a beat belongs: it asks the same of the same address, and is corrupt if the beat is
pub record IsAskedBy (message : HeldMessage) (beat : ABeat) : Type 0 where
  pub operation : message.operation ≡ operation_of beat.opcode beat.param
  pub address : message.address ≡ beat.address
  pub corrupt : beat.corrupt ≡ true → message.corrupt ≡ true

-- whatever message a beat belongs to, the page of what it gives has room
abbrev pub HasRoomForBeat : Errors → MemoryState → ABeat → Type 0
HasRoomForBeat errors memory beat = (message : HeldMessage) → IsAskedBy message beat → HasRoomToGive memory (acting errors (request_of message))

-- ---- channel D

-- the beat that may come early, where it is of a source
abbrev pub early_of : Option DBeat → ℕ → Option DBeat
early_of None source = None
early_of (Some due) source = if due.source == source then Some due else None

-- ---- a request that has failed

-- whether it has, where that may be told in any way, by where it may act and by the beats of its reply
abbrev pub fails_by : Errors → Option ℕ → List DBeat → Bool
fails_by Strict place beats = false
fails_by Any place beats = is_none place || tells_error beats

-- the bytes of the burst that an error response is to, where that may tell of other requests, whether or not it breaks a rule
abbrev pub span_told : Policy → Errors → OpenBursts → AxiBeat → Option Span
span_told AcceptanceOrder errors open_bursts beat = None
span_told RealTime Strict open_bursts beat = None
span_told RealTime Any open_bursts beat = answered_span open_bursts beat

-- ---- what changes of footprints

abbrev pub flight_changed : (Footprint → Footprint) → InFlight → InFlight
flight_changed change flight = record flight { footprint = change flight.footprint }

-- a client whose requests change, in flight or begun
abbrev pub client_changed : (Footprint → Footprint) → ClientBoard → ClientBoard
client_changed change client = record client { flights = each_flight (flight_changed change) client.flights; coming = change client.coming }

-- ---- what stays so

-- how many words the footprints have room for: those of a page
abbrev pub most_words : ℕ
most_words = 512

-- all clients' have this room
abbrev pub ClientsHaveRoom : ℕ → List ClientState → Type 0
ClientsHaveRoom room clients = AllByRecursion (λ client. client.flights.room ≡ room) clients

-- a first beat that a port took, of several: it names an operation, which is a Put, and has an aligned range of bytes
pub record IsFirstBeat (beat : ABeat) : Type 0 where
  pub named : IsSome (named_operation beat.opcode beat.param)
  pub range : IsMemoryRange beat.address beat.size
  pub carries : has_data (operation_of beat.opcode beat.param) ≡ true
  pub silent : reply_has_data (operation_of beat.opcode beat.param) ≡ false

-- only which bytes are indeterminate has changed
pub record IsMarkedAlone (old new : MemoryState) : Type 0 where
  pub memory : memory_of new ≡ memory_of old
  pub rooms : rooms_of new ≡ rooms_of old

-- the page of a request that may write has room
abbrev pub HasRoomToWrite : (ℕ → Bool) → Footprint → Type 0
HasRoomToWrite rooms footprint = footprint.writes ≡ true → rooms (footprint.address / 4096) ≡ true

abbrev pub HaveRoomToWrite : (ℕ → Bool) → List Footprint → Type 0
HaveRoomToWrite rooms footprints = AllByRecursion (HasRoomToWrite rooms) footprints

-- ---- the AXI4 port

-- whether as many bursts of its ID are open as may be, if a beat is an address
abbrev pub is_full : AxiPortLimits → OpenBursts → AxiBeat → Bool
is_full limits open_bursts (OnAw aw) = nat_le limits.depth (length (filter (write_of_id aw.id) open_bursts.writes))
is_full limits open_bursts (OnAr ar) = nat_le limits.depth (length (filter (read_of_id ar.id) open_bursts.reads))
is_full limits open_bursts beat = false
