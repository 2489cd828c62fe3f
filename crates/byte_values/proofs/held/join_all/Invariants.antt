-- What has settled so far, with what is left, is what settles with all.
use Rattle.std.proofs.Common.{◌≡◌, drop}
use Rattle.byte_values.specs.Words.{all_joined}
use Rattle.byte_values.proofs.held.join_all.Given as goal

abbrev pub invariant-loop-holding : goal.invariant-loop-holding
invariant-loop-holding l = all_joined l.lanes l.joined (drop l.holding-index l.held) ≡ all_joined l.lanes l.fn.settled l.held
