-- The lanes so far and those of what is left are those of all.
use Rattle.std.proofs.Common.{◌≡◌, drop}
use Rattle.byte_values.specs.Parts.{hiding_by, with_all}
use Rattle.byte_values.proofs.held.hiding_lanes.Given as goal

abbrev pub invariant-loop-other : goal.invariant-loop-other
invariant-loop-other l = with_all (hiding_by l.reader l.holding) l.lanes (drop l.other-index l.held) ≡ with_all (hiding_by l.reader l.holding) 0 l.held
