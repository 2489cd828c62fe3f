-- The pages of the bytes so far have room.
use Rattle.std.proofs.Common.{◌≡◌, ◌+◌, ◌/◌, ◌<◌, ℕ, true}
use Rattle.value_memory.specs.States.{KeepsContents}
use Rattle.value_memory.specs.ValueMemory.{rooms_in}
use Rattle.value_memory.proofs.memory.ValueMemory.make_rooms.Given as goal

abbrev pub invariant-loop-k : goal.invariant-loop-k
invariant-loop-k l = KeepsContents l.fn.self l.self × ((j : ℕ) → j < l.k → rooms_in l.self ((l.fn.address + j) / 4096) ≡ true)
