-- The record is that of the run of the steps so far, and the laws hold along them.
use Rattle.std.proofs.Common.{take}
use Rattle.world.specs.Laws.{AreSoundAlong}
use Rattle.world_run.specs.Runs.{IsRunOf}
use Rattle.setups.specs.Setups.{lists_of}
use Rattle.world.specs.World.{opening_world}
use Rattle.world_run.proofs.runs.run.Given as goal

abbrev pub invariant-loop-step : goal.invariant-loop-step
invariant-loop-step l =
    IsRunOf (lists_of l.fn.setup) (take l.step-index l.steps) l.ran.answers.items l.ran.replies.items l.ran.d_beats.items l.ran.sent.items l.ran.world
    × AreSoundAlong (opening_world (lists_of l.fn.setup)) (take l.step-index l.steps)
