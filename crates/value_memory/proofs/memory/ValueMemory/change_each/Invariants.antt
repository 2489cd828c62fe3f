-- The lists of the words so far have changed.
use Rattle.std.proofs.Common.{◌≡◌, ℕ, ◌+◌, ◌/◌}
use Rattle.value_memory.specs.InsideValues.{KeepsRest, held_changed, shares_first}
use Rattle.value_memory.specs.ValueMemory.{held_in}
use Rattle.value_memory.specs.States.{after_each, changed, contents_of}
use Rattle.value_memory.proofs.memory.ValueMemory.change_each.Given as goal

abbrev pub invariant-loop-place : goal.invariant-loop-place
invariant-loop-place l =
    KeepsRest l.fn.self l.self × ((x : ℕ) → held_in l.self x ≡ held_changed l.change (shares_first l.range l.place x) x (held_in l.fn.self x))
    × (contents_of l.self ≡ after_each (λ k. changed l.change (l.range.address / 8 + k)) l.place (contents_of l.fn.self))
