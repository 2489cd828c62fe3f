use Rattle.burst_plan.proofs.PlanLaws.{beats_counted}
use Rattle.burst_plan.proofs.plan.Plan.beats.Goals as goal

pub returns : goal.returns
returns c = rw (← c.self.view_is) (beats_counted _ c.self.inside.transfer_size c.self.invariant.plannable c.self.invariant.width)
