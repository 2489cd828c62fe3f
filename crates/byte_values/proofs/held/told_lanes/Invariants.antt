-- The lanes so far and those of what is left are those of all.
use Rattle.std.proofs.Common.{◌≡◌, ◌∷◌, drop}
use Rattle.byte_values.specs.Parts.{told_by, with_all}
use Rattle.byte_values.specs.Words.{beginning_of}
use Rattle.byte_values.proofs.held.told_lanes.Given as goal

abbrev pub invariant-loop-holding : goal.invariant-loop-holding
invariant-loop-holding l =
    with_all (told_by l.held l.number l.payload) l.lanes (drop l.holding-index l.held)
    ≡ with_all (told_by l.held l.number l.payload) 0 (beginning_of l.fn.settled ∷ l.held)
