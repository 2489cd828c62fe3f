-- Those so far are changed.
use Rattle.std.proofs.Common.{◌≡◌, ◌++◌, drop, map, take}
use Rattle.byte_values.specs.Words.{changed_by}
use Rattle.byte_values.proofs.held.change_each.Given as goal

abbrev pub invariant-loop-holding : goal.invariant-loop-holding
invariant-loop-holding l = l.held ≡ map (changed_by l.change) (take l.holding-index l.fn.held) ++ drop l.holding-index l.fn.held
