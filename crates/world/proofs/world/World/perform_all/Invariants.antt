-- The beats performed so far lead from the start to here, and no request is ready.
use Rattle.std.proofs.Common.{◌≡◌}
use Rattle.std.specs.Prelude.{None}
use Rattle.bridge_core.specs.Bridge.{burst_to_send}
use Rattle.world.specs.Choices.{LeadsTo}
use Rattle.world.specs.World.{work_left}
use Rattle.world.proofs.world.World.perform_all.Given as goal

abbrev pub invariant-loop-made : goal.invariant-loop-made
invariant-loop-made l = LeadsTo l.initial.self l.made l.self × (burst_to_send l.self.bridge ≡ None)

abbrev pub decreases-loop-made : goal.decreases-loop-made
decreases-loop-made l = work_left l.self
