-- A free AXI4 memory at the end point: it performs the beats of outstanding bursts in any order, every beat of a write before its B and each
-- beat of a read before its R; it answers as AXI4's ordering allows (AXI4, A5, transaction ordering). That a response never comes from a buffer on
-- the way, and that a write answered with an error changes nothing, is this project's profile: AXI4 allows more.
use Rattle.std.specs.Prelude.{ℕ, ◌+◌, ◌-◌, ◌==◌, Bool, true, false, ◌&&◌, List, [], ◌∷◌, ◌++◌, length, replicate, Option, Some, None, is_some, find, filter, filter_map, if◌then◌else◌, slice_get, slice_set, fold, flat_map, sum_by, drop, not}
use Rattle.std.specs.List.{list_any, range_with_len, enumerate_from}
use Rattle.bus_words.specs.Lanes.{has_lane, lane_byte, payload_of}
use Rattle.bus_words.specs.Places.{change_first, without_first}
use Rattle.axi_beats.specs.Bursts.{Burst, WriteBurst, ReadBurst}
use Rattle.axi_beats.specs.Responses.{is_okay}
use Rattle.axi_beats.specs.Transfers.{covers_lane, lane_address, transfer_address}
use Rattle.axi_beats.specs.declared.Resp.{Resp}
use Rattle.axi_beats.specs.declared.AwBeat.{AwBeat}
use Rattle.axi_beats.specs.declared.ArBeat.{ArBeat}
use Rattle.axi_beats.specs.declared.WBeat.{WBeat}
use Rattle.axi_beats.specs.declared.BBeat.{BBeat}
use Rattle.axi_beats.specs.declared.RBeat.{RBeat}
use Rattle.axi_checker.specs.OpenBursts.{OpenBursts, OpenWrite, OpenRead}
use Rattle.axi_checker.specs.Rules.{AxiPortLimits, burst_fault}
use Rattle.axi_checker.specs.declared.AxiRule.{AxiRule}
use Rattle.subordinate.specs.Faults.{Faults, standing_at, write_response, read_response}
use Rattle.subordinate.specs.Pages.{Memory, opening_memory, byte_at_address, with_byte}
use Rattle.subordinate.specs.declared.BeatState.{BeatState}
use Rattle.subordinate.specs.declared.BeatState.TheVariants.{Waiting, Written, Captured}
use Rattle.subordinate.specs.declared.PageKind.{PageKind}
use Rattle.subordinate.specs.declared.Performed.{Performed}
use Rattle.subordinate.specs.declared.Performed.TheVariants.{NoSuch, Already, Done}

-- an open burst, one that is outstanding: its serial, its beats, and how many of its R beats came
pub record Pending : Type 0 where
  pub serial : ℕ
  pub burst : Burst
  pub beats : List BeatState
  pub answered : ℕ

-- the memory's state: the bytes of its bus, its faults, its good pages, the open bursts in the order sent, and how many were sent
pub record FreeMemory : Type 0 where
  pub bus_bytes : ℕ
  pub faults : Faults
  pub memory : Memory
  pub pending : List Pending
  pub sent : ℕ

abbrev pub opening : ℕ → List (ℕ × PageKind) → List ℕ → FreeMemory
opening bus_bytes pages bad_words =
    record { bus_bytes = bus_bytes; faults = record { pages = pages; bad_words = bad_words }; memory = opening_memory pages; pending = []; sent = 0 }

-- ---- sending

abbrev pub transfers_in : Burst → ℕ
transfers_in (WriteBurst aw data_beats) = aw.len + 1
transfers_in (ReadBurst ar) = ar.len + 1

-- a burst just sent, of which nothing is performed
abbrev pub newly_pending : ℕ → Burst → Pending
newly_pending serial burst = record { serial = serial; burst = burst; beats = replicate (transfers_in burst) Waiting; answered = 0 }

-- the state with one more burst at its end; serials count from 0
abbrev pub with_burst : FreeMemory → Burst → FreeMemory
with_burst state burst = record state { pending = state.pending ++ newly_pending state.sent burst ∷ []; sent = state.sent + 1 }

-- an open write, and an open read, as a monitor of the port knows it: all W beats of a write came with it
abbrev pub open_write_in : Burst → Option OpenWrite
open_write_in (WriteBurst aw data_beats) = Some (record { aw = aw; came = aw.len + 1 })
open_write_in (ReadBurst ar) = None

abbrev pub open_read_in : ℕ → Burst → Option OpenRead
open_read_in answered (WriteBurst aw data_beats) = None
open_read_in answered (ReadBurst ar) = Some (record { ar = ar; came = answered })

-- the open bursts as a monitor of the port knows them that took all beats sent and answered so far: the clauses `monitor` of the device's calls say that
-- they go on as it does
abbrev pub open_bursts_of : FreeMemory → OpenBursts
open_bursts_of state =
    record {
      writes = filter_map (λ pending. open_write_in pending.burst) state.pending;
      reads = filter_map (λ pending. open_read_in pending.answered pending.burst) state.pending;
    }

-- the port of the device: that of a monitor of 16 IDs and depth 4 (this project's profile)
abbrev pub device_port : FreeMemory → AxiPortLimits
device_port state = record { bus_bytes = state.bus_bytes; ids = 16; depth = 4 }

-- why a burst is refused, if it is: the first rule that this monitor finds broken, beat by beat
abbrev pub send_fault : FreeMemory → Burst → Option AxiRule
send_fault state burst = burst_fault (device_port state) (open_bursts_of state) burst

-- ---- performing

-- whether transfer n of a write sets the byte of a lane
abbrev pub writes_lane : ℕ → AwBeat → ℕ → WBeat → ℕ → Bool
writes_lane bus_bytes aw n w lane = has_lane w.strobes lane && covers_lane bus_bytes aw.address aw.size n lane

-- the memory with the byte of one lane of transfer n set, where it is to be
abbrev pub lane_written : ℕ → AwBeat → ℕ → WBeat → Memory → ℕ → Memory
lane_written bus_bytes aw n w memory lane =
    if writes_lane bus_bytes aw n w lane
    then with_byte memory (lane_address bus_bytes aw.address aw.size n lane) (lane_byte w.payload lane)
    else memory

-- the memory after transfer n of a write: the bytes at its strobed lanes are set, where their page is good
unfoldable pub bytes_written : ℕ → Memory → AwBeat → ℕ → WBeat → Memory
bytes_written bus_bytes memory aw n w = fold (lane_written bus_bytes aw n w) memory (range_with_len 0 8)

-- the byte that transfer n of a read takes from a lane; none in a lane that it doesn't cover
abbrev pub byte_in_lane : ℕ → Memory → ArBeat → ℕ → ℕ → Option ℕ
byte_in_lane bus_bytes memory ar n lane =
    if covers_lane bus_bytes ar.address ar.size n lane then byte_at_address memory (lane_address bus_bytes ar.address ar.size n lane) else None

-- what a read beat with this response captures; with an error, and in lanes outside the transfer, zero (this project's profile)
abbrev pub captured_as : Resp → ℕ → Memory → ArBeat → ℕ → BeatState
captured_as resp bus_bytes memory ar n = Captured (if is_okay resp then payload_of (byte_in_lane bus_bytes memory ar n) else 0) resp

-- what transfer n of a read captures
abbrev pub captured : ℕ → Faults → Memory → ArBeat → ℕ → BeatState
captured bus_bytes faults memory ar n = captured_as (read_response faults (transfer_address ar.address ar.size n)) bus_bytes memory ar n

-- the memory after transfer n of a write, whose data may lack
abbrev pub memory_with : FreeMemory → AwBeat → ℕ → Option WBeat → Memory
memory_with state aw n None = state.memory
memory_with state aw n (Some w) = bytes_written state.bus_bytes state.memory aw n w

-- the memory after beat `beat` of a burst, counted from 0; a write changes bytes of good pages alone
abbrev pub memory_after : FreeMemory → Burst → ℕ → Memory
memory_after state (ReadBurst ar) beat = state.memory
memory_after state (WriteBurst aw data_beats) beat = memory_with state aw (beat + 1) (slice_get data_beats beat)

-- what becomes of that beat
abbrev pub beat_after : FreeMemory → Burst → ℕ → BeatState
beat_after state (WriteBurst aw data_beats) beat = Written
beat_after state (ReadBurst ar) beat = captured state.bus_bytes state.faults state.memory ar (beat + 1)

abbrev pub has_serial : ℕ → Pending → Bool
has_serial serial pending = pending.serial == serial

-- an open burst with one of its beats performed
abbrev pub with_beat : ℕ → BeatState → Pending → Pending
with_beat beat becomes pending = record pending { beats = slice_set pending.beats beat becomes }

-- the state after beat `beat` of an open burst was performed
abbrev pub with_performed : FreeMemory → Pending → ℕ → FreeMemory
with_performed state pending beat =
    record state {
      memory = memory_after state pending.burst beat;
      pending = change_first (has_serial pending.serial) (with_beat beat (beat_after state pending.burst beat)) state.pending;
    }

-- what the beat at a place is
abbrev pub beat_at : Pending → ℕ → Option BeatState
beat_at pending beat = slice_get pending.beats beat

-- performing a beat of an open burst, by what the beat is: there is none, it was performed before, or it waits and is done; any that waits may be next
abbrev pub performed_beat : FreeMemory → Pending → ℕ → Option BeatState → FreeMemory × Performed
performed_beat state pending beat None = (state, NoSuch)
performed_beat state pending beat (Some Waiting) = (with_performed state pending beat, Done)
performed_beat state pending beat (Some Written) = (state, Already)
performed_beat state pending beat (Some (Captured payload resp)) = (state, Already)

abbrev pub performed_in : FreeMemory → ℕ → Option Pending → FreeMemory × Performed
performed_in state beat None = (state, NoSuch)
performed_in state beat (Some pending) = performed_beat state pending beat (beat_at pending beat)

abbrev pub performed : FreeMemory → ℕ → ℕ → FreeMemory × Performed
performed state serial beat = performed_in state beat (find (has_serial serial) state.pending)

-- ---- answering

abbrev pub is_waiting : BeatState → Bool
is_waiting Waiting = true
is_waiting Written = false
is_waiting (Captured payload resp) = false

-- whether a burst is a write, or a read, of an ID
abbrev pub writes_as : ℕ → Burst → Bool
writes_as id (WriteBurst aw data_beats) = aw.id == id
writes_as id (ReadBurst ar) = false

abbrev pub reads_as : ℕ → Burst → Bool
reads_as id (WriteBurst aw data_beats) = false
reads_as id (ReadBurst ar) = ar.id == id

abbrev pub is_write_of : ℕ → Pending → Bool
is_write_of id pending = writes_as id pending.burst

abbrev pub is_read_of : ℕ → Pending → Bool
is_read_of id pending = reads_as id pending.burst

-- the first address of a burst
abbrev pub start_of : Burst → ℕ
start_of (WriteBurst aw data_beats) = aw.address
start_of (ReadBurst ar) = ar.address

-- the B of an open write, once all its beats are performed
abbrev pub b_from : Faults → ℕ → Option Pending → Option BBeat
b_from faults id None = None
b_from faults id (Some pending) =
    if list_any is_waiting pending.beats then None else Some (record { id = id; resp = write_response (standing_at faults (start_of pending.burst)) })

-- the B that an ID may give: that of its oldest open write
abbrev pub b_of : FreeMemory → ℕ → Option BBeat
b_of state id = b_from state.faults id (find (is_write_of id) state.pending)

-- whether the next R beat of an open read is its last
abbrev pub gives_last : Pending → Bool
gives_last pending = pending.answered + 1 == transfers_in pending.burst

-- the R that a beat of an open read gives, once it is performed
abbrev pub r_with : ℕ → Pending → Option BeatState → Option RBeat
r_with id pending None = None
r_with id pending (Some Waiting) = None
r_with id pending (Some Written) = None
r_with id pending (Some (Captured payload resp)) = Some (record { id = id; payload = payload; resp = resp; last = gives_last pending })

abbrev pub r_from : ℕ → Option Pending → Option RBeat
r_from id None = None
r_from id (Some pending) = r_with id pending (beat_at pending pending.answered)

-- the R that an ID may give: the next beat of its oldest open read
abbrev pub r_of : FreeMemory → ℕ → Option RBeat
r_of state id = r_from id (find (is_read_of id) state.pending)

-- the state after the B of an ID came
abbrev pub after_b_of : FreeMemory → ℕ → FreeMemory
after_b_of state id = record state { pending = without_first (is_write_of id) state.pending }

-- the open bursts after an R of an ID came; the last one closes its read
abbrev pub pending_after_r : ℕ → List Pending → List Pending
pending_after_r id [] = []
pending_after_r id (p ∷ ps) =
    if is_read_of id p then (if gives_last p then ps else record p { answered = p.answered + 1 } ∷ ps) else p ∷ pending_after_r id ps

abbrev pub after_r_of : FreeMemory → ℕ → FreeMemory
after_r_of state id = record state { pending = pending_after_r id state.pending }

-- ---- what may happen next

-- the unperformed beats of one open burst, and of all, by rising serial and beat
abbrev pub waiting_in : Pending → List (ℕ × ℕ)
waiting_in pending = filter_map (λ place. if is_waiting place.1 then Some (pending.serial, place.0) else None) (enumerate_from 0 pending.beats)

abbrev pub waiting_beats : FreeMemory → List (ℕ × ℕ)
waiting_beats state = flat_map waiting_in state.pending

-- the IDs that may give a B, and those that may give an R
abbrev pub ids_with_b : FreeMemory → List ℕ
ids_with_b state = filter (λ id. is_some (b_of state id)) (range_with_len 0 16)

abbrev pub ids_with_r : FreeMemory → List ℕ
ids_with_r state = filter (λ id. is_some (r_of state id)) (range_with_len 0 16)

-- the smallest ID that may give a B, and the smallest that may give an R
abbrev pub first_with_b : FreeMemory → Option ℕ
first_with_b state = find (λ id. is_some (b_of state id)) (range_with_len 0 16)

abbrev pub first_with_r : FreeMemory → Option ℕ
first_with_r state = find (λ id. is_some (r_of state id)) (range_with_len 0 16)

-- the answers that an open burst has still to give
abbrev pub answers_left : ℕ → Burst → ℕ
answers_left answered (WriteBurst aw data_beats) = 1
answers_left answered (ReadBurst ar) = ar.len + 1 - answered

-- the work left in one open burst, its unperformed beats and its answers to come, and in all
abbrev pub work_in : Pending → ℕ
work_in pending = length (waiting_in pending) + answers_left pending.answered pending.burst

abbrev pub work_open : FreeMemory → ℕ
work_open state = sum_by work_in state.pending

-- the performed beats of one open burst whose R, or whose burst's B, hasn't come, and of all
abbrev pub performed_waiting_in : Pending → ℕ
performed_waiting_in pending = length (filter (λ beat. not (is_waiting beat)) (drop pending.answered pending.beats))

abbrev pub performed_waiting : FreeMemory → ℕ
performed_waiting state = sum_by performed_waiting_in state.pending
