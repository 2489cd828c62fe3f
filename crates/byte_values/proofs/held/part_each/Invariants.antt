-- Those so far are changed.
use Rattle.std.proofs.Common.{◌≡◌, ◌++◌, drop, map, take}
use Rattle.byte_values.specs.Words.{parted}
use Rattle.byte_values.proofs.held.part_each.Given as goal

abbrev pub invariant-loop-holding : goal.invariant-loop-holding
invariant-loop-holding l = l.held ≡ map (parted l.lanes) (take l.holding-index l.fn.held) ++ drop l.holding-index l.fn.held
