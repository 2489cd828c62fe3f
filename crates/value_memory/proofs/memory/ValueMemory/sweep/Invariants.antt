-- Lists are kept short so far, and nothing else has changed.
use Rattle.std.proofs.Common.{◌≡◌, [], false}
use Rattle.value_memory.specs.InsideValues.{KeepsRest}
use Rattle.value_memory.specs.States.{after_each, contents_of, tidied_beside}
use Rattle.value_memory.specs.ValueMemory.{AllGo, to_all}
use Rattle.value_memory.proofs.memory.ValueMemory.sweep.Given as goal

abbrev pub invariant-loop-place : goal.invariant-loop-place
invariant-loop-place l = AllGo l.fn.self.oldest false l.fn.self l.self (to_all []) × KeepsRest l.fn.self l.self × (contents_of l.self ≡ after_each (tidied_beside l.word) l.place (contents_of l.fn.self))
