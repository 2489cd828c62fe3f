-- The bytes so far are put.
use Rattle.std.proofs.Common.{◌≡◌}
use Rattle.value_memory.specs.InsideValues.{KeepsRest}
use Rattle.value_memory.specs.States.{contents_of, filled_first}
use Rattle.value_memory.proofs.memory.ValueMemory.put_each.Given as goal

abbrev pub invariant-loop-k : goal.invariant-loop-k
invariant-loop-k l = KeepsRest l.fn.self l.self × (contents_of l.self ≡ filled_first l.fn.address l.fn.bytes l.k (contents_of l.fn.self))
