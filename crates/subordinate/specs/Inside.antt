-- How the parts of a device make its state, and what stays true of their room.
use Rattle.std.specs.Prelude.{◌≡◌, ℕ, ◌+◌, ◌≤◌, Bool, List, [], ◌∷◌, ◌++◌, length, map, filter, find, Option, None, Some, option_map, option_to_list, if◌then◌else◌}
use Rattle.axi_beats.specs.Bursts.{Burst, ReadBurst, WriteBurst}
use Rattle.bus_words.specs.Places.{change_first, without_first}
use Rattle.subordinate.specs.Device.{DeviceState}
use Rattle.subordinate.specs.FreeMemory.{FreeMemory, Pending, beat_after, is_read_of, is_waiting, is_write_of, memory_after, with_beat}
use Rattle.subordinate.specs.InsidePages.{PagesState}
use Rattle.subordinate.specs.declared.BeatState.{BeatState}
use Rattle.subordinate.specs.declared.BeatState.TheVariants.{Waiting, Written, Captured}
use Rattle.axi_beats.specs.declared.Resp.{Resp}

-- a read of nothing
abbrev pub no_burst : Burst
no_burst = ReadBurst (record { id = 0; address = 0; len = 0; size = 0; burst = 1 })

-- the burst in a box that isn't empty
abbrev pub burst_in : Option Burst → Burst
burst_in None = no_burst
burst_in (Some burst) = burst

-- an open burst of its parts
abbrev pub pending_of : ℕ → Option Burst → List BeatState → ℕ → Pending
pending_of serial held beats answered = record { serial = serial; burst = burst_in held; beats = beats; answered = answered }

-- the beats that aren't performed
abbrev pub count_waiting : List BeatState → ℕ
count_waiting beats = length (filter is_waiting beats)

-- a memory of its parts
abbrev pub memory_of : ℕ → PagesState → List Pending → ℕ → FreeMemory
memory_of bus_bytes pages pending sent = record { bus_bytes = bus_bytes; faults = pages.faults; memory = pages.memory; pending = pending; sent = sent }

-- pages as a memory with nothing sent
abbrev pub memory_over : ℕ → PagesState → FreeMemory
memory_over bus_bytes pages = memory_of bus_bytes pages [] 0

abbrev pub device_state : ℕ → PagesState → List Pending → ℕ → List (Option Burst) → DeviceState
device_state bus_bytes pages pending sent closed = record { memory = memory_of bus_bytes pages pending sent; closed = map burst_in closed }

-- the room of a device: 128 bursts may be open or closed, and the beats of those that aren't open are kept to be used again
pub record HasRoom (open_bursts closed spare room_of_closed room_of_spare : ℕ) : Type 0 where
  pub bursts : open_bursts + closed ≤ 128
  pub beats : open_bursts + spare ≡ 128
  pub for_closed : 128 ≤ room_of_closed
  pub for_spare : 128 ≤ room_of_spare

-- the device after the first open burst that passes a test closed
abbrev pub after_closing : (Pending → Bool) → DeviceState → DeviceState
after_closing test device =
    record {
      memory = record device.memory { pending = without_first test device.memory.pending };
      closed = device.closed ++ option_to_list (option_map (λ pending. pending.burst) (find test device.memory.pending));
    }

-- the places of the beats that aren't performed, the first beat's place being `from`
abbrev pub waiting_places : ℕ → List BeatState → List ℕ
waiting_places from [] = []
waiting_places from (beat ∷ beats) = if is_waiting beat then from ∷ waiting_places (from + 1) beats else waiting_places (from + 1) beats

-- what a read's beat captured, if it did
abbrev pub captured_at : Option BeatState → Option (ℕ × Resp)
captured_at None = None
captured_at (Some Waiting) = None
captured_at (Some Written) = None
captured_at (Some (Captured payload resp)) = Some (payload, resp)

-- an open read of which one more R beat came
abbrev pub with_answer : Pending → Pending
with_answer pending = record pending { answered = pending.answered + 1 }

-- whether an open burst has the side and the ID of a burst
abbrev pub is_beside : Burst → Pending → Bool
is_beside (WriteBurst aw data_beats) pending = is_write_of aw.id pending
is_beside (ReadBurst ar) pending = is_read_of ar.id pending

-- the device after a beat of the first open burst that passes a test was performed
abbrev pub performed_first : FreeMemory → (Pending → Bool) → ℕ → Option Pending → FreeMemory
performed_first memory test beat None = memory
performed_first memory test beat (Some pending) =
    record memory {
      memory = memory_after memory pending.burst beat;
      pending = change_first test (with_beat beat (beat_after memory pending.burst beat)) memory.pending;
    }

abbrev pub after_performing : (Pending → Bool) → ℕ → DeviceState → DeviceState
after_performing test beat device = record device { memory = performed_first device.memory test beat (find test device.memory.pending) }

-- the device after an R of the first open burst that passes a test, which was not its last
abbrev pub after_counting : (Pending → Bool) → DeviceState → DeviceState
after_counting test device = record device { memory = record device.memory { pending = change_first test with_answer device.memory.pending } }
