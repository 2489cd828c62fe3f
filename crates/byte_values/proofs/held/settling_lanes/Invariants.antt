-- The lanes so far and those of what is left are those of all.
use Rattle.std.proofs.Common.{◌≡◌, drop}
use Rattle.byte_values.specs.Parts.{with_all}
use Rattle.byte_values.proofs.SettleLaws.{over_lanes, shared_lanes}
use Rattle.byte_values.proofs.held.settling_lanes.Given as goal

abbrev pub invariant-loop-holding : goal.invariant-loop-holding
invariant-loop-holding l = record {
  over : with_all over_lanes l.over (drop l.holding-index l.held) ≡ with_all over_lanes 0 l.held;
  shared : shared_lanes l.taken l.shared (drop l.holding-index l.held) ≡ shared_lanes l.settled 0 l.held;
}
