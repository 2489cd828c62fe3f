-- The words so far have the request in their lists, as far as these aren't given up.
use Rattle.std.proofs.Common.{◌≡◌, ℕ}
use Rattle.value_memory.specs.InsideValues.{HasBegunUntil, KeepsRest}
use Rattle.value_memory.specs.States.{after_each, begun_place, contents_of, is_crowded_until}
use Rattle.value_memory.proofs.memory.ValueMemory.begin_each.Given as goal

abbrev pub invariant-loop-place : goal.invariant-loop-place
invariant-loop-place l = KeepsRest l.fn.self l.self × ((x : ℕ) → HasBegunUntil l.fn.self.begun l.range l.place l.fn.self l.self l.crowded x)
    × (contents_of l.self ≡ after_each (begun_place l.range) l.place (contents_of l.fn.self)) × (l.crowded ≡ is_crowded_until l.range l.place (contents_of l.fn.self))
