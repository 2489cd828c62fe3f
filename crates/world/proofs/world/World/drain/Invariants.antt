-- The rounds made so far lead from the start to here.
use Rattle.world.specs.Choices.{LeadsTo}
use Rattle.world.specs.World.{work_left}
use Rattle.world.proofs.world.World.drain.Given as goal

abbrev pub invariant-loop-made : goal.invariant-loop-made
invariant-loop-made l = LeadsTo l.initial.self l.made l.self

abbrev pub decreases-loop-made : goal.decreases-loop-made
decreases-loop-made l = work_left l.self
