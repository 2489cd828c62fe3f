-- What was seen is what the steps so far show, and the laws hold along them.
use Rattle.std.proofs.Common.{take}
use Rattle.setups.specs.Setups.{lists_of}
use Rattle.observed_run.proofs.SeenSteps.{HasSeen}
use Rattle.observed_run.proofs.runs.observed.Given as goal

abbrev pub invariant-loop-step : goal.invariant-loop-step
invariant-loop-step l = HasSeen (lists_of l.fn.setup) (take l.step-index l.steps) l.seen.items l.world
