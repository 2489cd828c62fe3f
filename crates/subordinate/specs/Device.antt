-- A device: a free memory, and the boxes of closed bursts that wait to be taken back.
use Rattle.std.specs.Prelude.{ℕ, List, [], ◌∷◌, ◌++◌, Option, Some, None, option_map, option_to_list, drop, find, if◌then◌else◌}
use Rattle.axi_beats.specs.Bursts.{Burst}
use Rattle.subordinate.specs.FreeMemory.{FreeMemory, Pending, opening, has_serial, is_write_of, is_read_of, gives_last, after_b_of, after_r_of}
use Rattle.subordinate.specs.declared.PageKind.{PageKind}

-- the memory, and the bursts of closed boxes, the first closed first
pub record DeviceState : Type 0 where
  pub memory : FreeMemory
  pub closed : List Burst

abbrev pub opening_device : ℕ → List (ℕ × PageKind) → List ℕ → DeviceState
opening_device bus_bytes pages bad_words = record { memory = opening bus_bytes pages bad_words; closed = [] }

-- the open burst with a serial
abbrev pub open_burst : FreeMemory → ℕ → Option Burst
open_burst state serial = option_map (λ pending. pending.burst) (find (has_serial serial) state.pending)

-- the burst that the B of an ID closes
abbrev pub closed_by_b : FreeMemory → ℕ → List Burst
closed_by_b state id = option_to_list (option_map (λ pending. pending.burst) (find (is_write_of id) state.pending))

-- the burst that the next R of an ID closes: its read, where that R is the last
abbrev pub closed_by_last : Option Pending → List Burst
closed_by_last None = []
closed_by_last (Some pending) = if gives_last pending then pending.burst ∷ [] else []

abbrev pub closed_by_r : FreeMemory → ℕ → List Burst
closed_by_r state id = closed_by_last (find (is_read_of id) state.pending)

-- the device after the B, and after an R, of an ID
abbrev pub after_b : DeviceState → ℕ → DeviceState
after_b device id = record { memory = after_b_of device.memory id; closed = device.closed ++ closed_by_b device.memory id }

abbrev pub after_r : DeviceState → ℕ → DeviceState
after_r device id = record { memory = after_r_of device.memory id; closed = device.closed ++ closed_by_r device.memory id }

-- the device without the box that closed first
abbrev pub after_take : DeviceState → DeviceState
after_take device = record device { closed = drop 1 device.closed }
