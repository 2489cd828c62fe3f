-- The pages of the bytes so far have room.
use Rattle.std.proofs.Common.{◌≡◌, ◌+◌, ◌/◌, ◌<◌, ℕ, true}
use Rattle.sparse_memory.specs.SparseMemory.{has_room}
use Rattle.serial_memory.specs.InsideSerial.{IsReservedAlone}
use Rattle.serial_memory.proofs.filling.reserve_each.Given as goal

abbrev pub invariant-loop-k : goal.invariant-loop-k
invariant-loop-k l = IsReservedAlone l.fn.pages l.pages × ((j : ℕ) → j < l.k → has_room l.pages ((l.fn.address + j) / 4096) ≡ true)
