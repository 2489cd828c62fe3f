-- The R beats given so far lead from the start to here, where no other step is enabled.
use Rattle.world.specs.Choices.{LeadsTo}
use Rattle.world.specs.World.{work_left}
use Rattle.world.proofs.FirstSteps.{StaysRead}
use Rattle.world.proofs.world.World.read_on.Given as goal

abbrev pub invariant-loop-id : goal.invariant-loop-id
invariant-loop-id l = LeadsTo l.initial.self l.made l.self × StaysRead l.self

abbrev pub decreases-loop-id : goal.decreases-loop-id
decreases-loop-id l = work_left l.self
