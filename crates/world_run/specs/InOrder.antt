-- What holds after every list of events, and why the order of acceptance is kept: the memory, what its open bursts captured, and what the
-- bridge gathered are those of the requests carried out one at a time. It is told of single bytes. It knows bridge, memory and the requests
-- one at a time; what an event does is hidden from it, and replies are left to those who read what was gathered.
use Rattle.std.specs.Prelude.{ℕ, ◌≡◌, ◌+◌, ◌*◌, ◌%◌, ◌^◌, ◌<◌, ◌≤◌, Bool, true, false, ◌&&◌, ◌||◌, min, List, [], ◌∷◌, length, filter, find, Option, Some, None, is_some, nat_lt, slice_get, unwrap_or, All, ⊤, if◌then◌else◌}
use Rattle.std.specs.List.{AllByRecursion, enumerate_from}
use Rattle.bus_words.specs.Lanes.{has_lane, lane_byte}
use Rattle.tl_messages.specs.Requests.{request_of}
use Rattle.axi_beats.specs.Bursts.{WriteBurst, ReadBurst}
use Rattle.axi_beats.specs.Responses.{is_okay}
use Rattle.axi_beats.specs.Transfers.{transfer_address, transfer_has}
use Rattle.axi_beats.specs.declared.ArBeat.{ArBeat}
use Rattle.axi_beats.specs.declared.AwBeat.{AwBeat}
use Rattle.axi_beats.specs.declared.RBeat.{RBeat}
use Rattle.axi_beats.specs.declared.Resp.{Resp}
use Rattle.axi_beats.specs.declared.WBeat.{WBeat}
use Rattle.burst_plan.specs.declared.Piece.{Piece}
use Rattle.flight_table.specs.LiveRequests.{reads_then_writes, planned}
use Rattle.responses.specs.Answers.{IsReadAt, gathering_after}
use Rattle.responses.specs.Gathered.{gathering_of}
use Rattle.bridge_core.specs.Bridge.{BridgeState, message_with}
use Rattle.bridge_core.specs.Laws.{outstanding}
use Rattle.bridge_core.specs.HeldRequests.{BridgedRequest, RequestTable, holder, is_numbered, outline_in}
use Rattle.burst_plan.specs.PageMap.{address_of}
use Rattle.subordinate.specs.Faults.{is_good, read_response, standing_at, write_response}
use Rattle.subordinate.specs.FreeMemory.{Pending, is_read_of, is_waiting, is_write_of}
use Rattle.subordinate.specs.declared.BeatState.{BeatState}
use Rattle.subordinate.specs.declared.BeatState.TheVariants.{Captured, Waiting}
use Rattle.world.specs.Laws.{IsSoundWorld}
use Rattle.meaning.specs.Meaning.{Bytes}
use Rattle.world_run.specs.Runs.{accepted_in}
use Rattle.world_run.specs.Serial.{Order, asked, byte_left, bytes_before, touches, writes}
use Rattle.setups.specs.Setups.{SetupLists, faults_of}
use Rattle.world.specs.World.{WorldState, byte_of, next}
use Rattle.world.specs.declared.Answer.{Answer}
use Rattle.world.specs.declared.Answer.TheVariants.{Accepted}
use Rattle.world.specs.declared.Step.{Step}
use Rattle.world.specs.declared.Step.TheVariants.{Offer}

-- ---- the order over single bytes

-- those that wrote the byte at x are just the requests below n that write it
pub record IsCut (writing wrote : ℕ → ℕ → Bool) (n x : ℕ) : Type 0 where
  -- each of the first n that writes the byte has written it
  pub below : (i : ℕ) → i < n → writing i x ≡ true → wrote i x ≡ true
  -- and none from n on has
  pub above : (i : ℕ) → n ≤ i → wrote i x ≡ true → ⊥

-- a history of requests by number: which have started and which are finished, which bytes each has written, and the bytes of the memory. It is
-- in order: where those that wrote a byte are just the first n of its writers, the byte is as the first n requests, one at a time, leave it
pub record IsHistory (writing : ℕ → ℕ → Bool) (before : ℕ → Bytes) (started finished : ℕ → Bool) (wrote : ℕ → ℕ → Bool) (bytes : Bytes) : Type 0 where
  -- that it is a cut is a condition: a byte may have several, and nobody keeps one
  pub memory : (n x : ℕ) → IsCut writing wrote n x → bytes x ≡ before n x
  -- who wrote has started, and writes there
  pub began : (j x : ℕ) → wrote j x ≡ true → started j ≡ true
  pub writer : (j x : ℕ) → wrote j x ≡ true → writing j x ≡ true
  -- who is finished has written all that it writes
  pub all_written : (j x : ℕ) → finished j ≡ true → writing j x ≡ true → wrote j x ≡ true

-- of two requests that touch a byte which one of them writes, the later starts when the earlier is finished
pub record HoldsBack (writing touching : ℕ → ℕ → Bool) (started finished : ℕ → Bool) : Type 0 where
  -- where the earlier one writes
  pub earlier : (i j x : ℕ) → i < j → started j ≡ true → writing i x ≡ true → touching j x ≡ true → finished i ≡ true
  -- where the later one writes
  pub later : (i j x : ℕ) → i < j → started j ≡ true → touching i x ≡ true → writing j x ≡ true → finished i ≡ true

-- ---- as the bridge's live requests tell: a number that isn't live any more is finished

-- it sent a burst, and so holds an ID, or is done
abbrev pub has_begun : Option BridgedRequest → Bool
has_begun None = true
has_begun (Some request) = is_some request.flight.id || request.flight.done

-- it is done
abbrev pub is_over : Option BridgedRequest → Bool
is_over None = true
is_over (Some request) = request.flight.done

-- a number that is accepted, and has sent a burst, is done or is live no more
abbrev pub started : RequestTable → ℕ → Bool
started table number = nat_lt number table.accepted && has_begun (find (is_numbered number) table.live)

-- a number that is accepted, and done or live no more
abbrev pub is_finished : RequestTable → ℕ → Bool
is_finished table number = nat_lt number table.accepted && is_over (find (is_numbered number) table.live)

-- ---- the open bursts

-- transfer n of a write of request `number`: on good pages it has a strobe just where the request writes, and there the byte that the request leaves
pub record PutsSerially (order : Order) (number bus_bytes : ℕ) (piece : Piece) (n : ℕ) (w : WBeat) : Type 0 where
  -- which bytes it would change
  pub strobes :
      (x : ℕ) → transfer_has piece.address piece.size n x ≡ true → is_good (standing_at order.faults x) ≡ true
      → has_lane w.strobes (x % bus_bytes) ≡ writes order number x
  -- and to what
  pub bytes :
      (x : ℕ) → transfer_has piece.address piece.size n x ≡ true → writes order number x ≡ true
      → lane_byte w.payload (x % bus_bytes) ≡ byte_left order number x

-- what transfer n of a read captured: its page and word decide the response, and with OKAY each byte is the one that the request finds
pub record TellsSerially (order : Order) (number bus_bytes : ℕ) (piece : Piece) (n payload : ℕ) (resp : Resp) : Type 0 where
  -- told by page and word alone, whenever it was performed
  pub response : resp ≡ read_response order.faults (transfer_address piece.address piece.size n)
  -- the bytes that the requests before it leave
  pub bytes :
      (x : ℕ) → is_okay resp ≡ true → transfer_has piece.address piece.size n x ≡ true
      → lane_byte payload (x % bus_bytes) ≡ bytes_before order number x

-- an open write of a piece of a request's plan: the bytes of its performed beats are written
pub record IsWriteOf (order : Order) (bus_bytes : ℕ) (wrote : ℕ → ℕ → Bool) (number : ℕ) (pending : Pending) (piece : Piece) : Type 0 where
  pub aw : AwBeat
  pub w_beats : List WBeat
  -- its address beat is that of the piece
  pub burst : pending.burst ≡ WriteBurst aw w_beats
  pub address : aw.address ≡ piece.address
  pub size : aw.size ≡ piece.size
  pub len : aw.len ≡ piece.len
  -- all its W beats are right from the start; beat n, from 0, is transfer n + 1
  pub puts : (n : ℕ) (w : WBeat) → slice_get w_beats n ≡ Some w → PutsSerially order number bus_bytes piece (n + 1) w
  -- what a performed beat put counts as written
  pub written :
      (n x : ℕ) (beat : BeatState) → slice_get pending.beats n ≡ Some beat → is_waiting beat ≡ false
      → transfer_has piece.address piece.size (n + 1) x ≡ true → writes order number x ≡ true → wrote number x ≡ true
  -- and what a beat that waits would put doesn't
  pub unwritten : (n x : ℕ) → slice_get pending.beats n ≡ Some Waiting → n ≤ piece.len → transfer_has piece.address piece.size (n + 1) x ≡ true → wrote number x ≡ false

-- an open read of a piece: its performed beats tell what the request finds
pub record IsReadOf (order : Order) (bus_bytes number : ℕ) (pending : Pending) (piece : Piece) : Type 0 where
  pub ar : ArBeat
  -- its address beat is that of the piece
  pub burst : pending.burst ≡ ReadBurst ar
  pub address : ar.address ≡ piece.address
  pub size : ar.size ≡ piece.size
  pub len : ar.len ≡ piece.len
  -- a beat that isn't performed tells nothing
  pub tells :
      (n payload : ℕ) (resp : Resp) → slice_get pending.beats n ≡ Some (Captured payload resp)
      → TellsSerially order number bus_bytes piece (n + 1) payload resp

-- an open burst of a piece of a request that writes, or reads; true is a write
abbrev pub IsBurstOf : Order → ℕ → (ℕ → ℕ → Bool) → ℕ → Bool → Pending → Piece → Type 0
IsBurstOf order bus_bytes wrote number true pending piece = IsWriteOf order bus_bytes wrote number pending piece
IsBurstOf order bus_bytes wrote number false pending piece = IsReadOf order bus_bytes number pending piece

-- open bursts are, one by one, these pieces of a request
abbrev pub AreBurstsOf : Order → ℕ → (ℕ → ℕ → Bool) → ℕ → Bool → List Pending → List Piece → Type 0
AreBurstsOf order bus_bytes wrote number write [] [] = ⊤
AreBurstsOf order bus_bytes wrote number write [] (piece ∷ pieces) = ⊥
AreBurstsOf order bus_bytes wrote number write (pending ∷ more) [] = ⊥
AreBurstsOf order bus_bytes wrote number write (pending ∷ more) (piece ∷ pieces) =
    IsBurstOf order bus_bytes wrote number write pending piece × AreBurstsOf order bus_bytes wrote number write more pieces

-- whether an open burst, write or read, has an ID
abbrev pub is_of_id : ℕ → Pending → Bool
is_of_id id pending = is_write_of id pending || is_read_of id pending

-- the open bursts of an ID, in the order sent, are the outstanding ones of the request that holds it; where nobody does there are none
abbrev pub AreOfHolder : Order → ℕ → (ℕ → ℕ → Bool) → List Pending → Option BridgedRequest → Type 0
AreOfHolder order bus_bytes wrote mine None = mine ≡ []
AreOfHolder order bus_bytes wrote mine (Some request) = AreBurstsOf order bus_bytes wrote request.flight.number request.flight.writing mine (outstanding request.flight)

-- ---- the live requests

-- a read that came, at its place among those of a request: it tells what the request finds
pub record TellsAt (order : Order) (bus_bytes : ℕ) (request : BridgedRequest) (address place : ℕ) (r : RBeat) : Type 0 where
  -- the response of the page and word that it begins in
  pub response : r.resp ≡ read_response order.faults (address + place * min (2 ^ (outline_in request).size) bus_bytes)
  -- with OKAY its bytes are those that the request finds
  pub bytes :
      (x : ℕ) → is_okay r.resp ≡ true → IsReadAt bus_bytes (outline_in request) address place x
      → lane_byte r.payload (x % bus_bytes) ≡ bytes_before order request.flight.number x

-- what a request at an AXI address has gathered: its reads in order, each of which tells what the request finds, and the responses to its writes;
-- an atomic plans its write where its range can be read
pub record HasGathered (order : Order) (bus_bytes : ℕ) (request : BridgedRequest) (address : ℕ) : Type 0 where
  pub reads : List RBeat
  pub responses : List Resp
  -- what was gathered is what reads and responses make of it, each read at the place where it came
  pub gathered : request.gathering ≡ gathering_after bus_bytes (outline_in request) (record { reads = enumerate_from 0 reads; writes = responses })
  -- they are all that came: its reads, and one response for each write that was answered
  pub came : length reads ≡ request.gathering.came
  pub answered : length responses ≡ (if request.flight.writing then request.flight.answered else 0)
  -- each read tells what the request finds, each response tells of the page, which is one for the whole request
  pub tell : (place : ℕ) (r : RBeat) → slice_get reads place ≡ Some r → TellsAt order bus_bytes request address place r
  pub responded : All (λ resp. resp ≡ write_response (standing_at order.faults address)) responses
  -- an atomic that writes could read: neither an error page nor a bad word
  pub readable : reads_then_writes request.flight ≡ true → request.flight.writing ≡ true → is_okay (read_response order.faults address) ≡ true

-- what a request has gathered, at its AXI address; one without an address is denied and gathers nothing
abbrev pub IsGathered : Order → ℕ → BridgedRequest → Option ℕ → Type 0
IsGathered order bus_bytes request None = request.gathering ≡ gathering_of (outline_in request) true
IsGathered order bus_bytes request (Some address) = HasGathered order bus_bytes request address

-- a live request: it is the one of its number; what its answered writes put is written, and nothing is of a write that isn't sent, or of a
-- request that reads; and what it has gathered is what it finds
pub record IsInItsTurn (order : Order) (bus_bytes : ℕ) (wrote : ℕ → ℕ → Bool) (request : BridgedRequest) : Type 0 where
  -- its message spells the request of its number
  pub asked : asked order request.flight.number ≡ Some (request_of request.message)
  -- a request that reads has written nothing, so its reads find what the requests before it leave
  pub unwritten : request.flight.writing ≡ false → (x : ℕ) → wrote request.flight.number x ≡ false
  -- of a write that isn't sent nothing is written
  pub unsent :
      request.flight.writing ≡ true → (k n x : ℕ) (piece : Piece) → request.flight.sent ≤ k → slice_get (planned request.flight) k ≡ Some piece → n ≤ piece.len
      → transfer_has piece.address piece.size (n + 1) x ≡ true → wrote request.flight.number x ≡ false
  -- of an answered write all bytes are written, those of each of its transfers
  pub written :
      request.flight.writing ≡ true → (k n x : ℕ) (piece : Piece) → k < request.flight.answered → slice_get (planned request.flight) k ≡ Some piece → 1 ≤ n
      → n ≤ piece.len + 1 → transfer_has piece.address piece.size n x ≡ true → writes order request.flight.number x ≡ true → wrote request.flight.number x ≡ true
  -- its reply is told from this
  pub gathered : IsGathered order bus_bytes request (address_of order.regions (request_of request.message))

-- ---- all of it

-- the bytes of the memory, where a page that isn't good counts as zero
abbrev pub memory_bytes : WorldState → Bytes
memory_bytes state x = unwrap_or (byte_of state x) 0

-- the world after a list of events, beside all requests that are accepted in a whole run
pub record KeepsOrder (order : Order) (state : WorldState) : Type 0 where
  -- which request has written which byte: all that is kept beside the state itself
  pub wrote : ℕ → ℕ → Bool
  -- faults and page map are those of the whole run
  pub faults : state.memory.faults ≡ order.faults
  pub regions : state.bridge.requests.regions ≡ order.regions
  -- the memory shows the requests one at a time, at each cut
  pub history :
      IsHistory (writes order) (bytes_before order) (started state.bridge.requests) (is_finished state.bridge.requests) wrote (memory_bytes state)
  -- conflicting requests start in the order of acceptance
  pub held : HoldsBack (writes order) (touches order) (started state.bridge.requests) (is_finished state.bridge.requests)
  -- each live request has gathered what it finds
  pub live : AllByRecursion (IsInItsTurn order state.memory.bus_bytes wrote) state.bridge.requests.live
  -- the open bursts of each ID are those of its holder
  pub bursts :
      (id : ℕ) → AreOfHolder order state.memory.bus_bytes wrote (filter (is_of_id id) state.memory.pending) (holder id state.bridge.requests.live)

-- a request that an event makes accepted is the one of its number
abbrev pub IsForeseenBy : Order → BridgeState → Step → Answer → Type 0
IsForeseenBy order bridge (Offer client beat) (Accepted number) = asked order number ≡ Some (request_of (message_with bridge client beat))
IsForeseenBy order bridge _ _ = ⊤

-- what an event accepts is foreseen: the list of all requests has it under its number
abbrev pub IsForeseen : Order → WorldState → Step → Type 0
IsForeseen order state step = IsForeseenBy order state.bridge step (next state step).answer

-- ---- after a run

-- the requests that a run accepted, over its page map and faults
abbrev pub order_of : SetupLists → List Step → List Answer → Order
order_of setup steps answers = record { faults = faults_of setup; regions = setup.regions; requests = accepted_in steps answers }

-- what holds of a world after a list of events
pub record IsOrdered (order : Order) (state : WorldState) : Type 0 where
  pub keeps : KeepsOrder order state
  -- bridge and memory are as their laws say: of two live requests that conflict and aren't done, the later has sent nothing (`in_order` of the table)
  pub sound : IsSoundWorld state
  -- so those that wrote a byte are the first so many of its writers: before one wrote it, each earlier one had
  pub first_writers : (i j x : ℕ) → i < j → keeps.wrote j x ≡ true → writes order i x ≡ true → keeps.wrote i x ≡ true
