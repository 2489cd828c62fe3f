-- No write before the place lacks data.
use Rattle.axi_checker.specs.Monitors.{AreComplete}
use Rattle.axi_checker.proofs.outstanding.place_to_fill.Given as goal

abbrev pub invariant-loop-place : goal.invariant-loop-place
invariant-loop-place g l = AreComplete (g.E.Entries.side l.writes).items l.place
