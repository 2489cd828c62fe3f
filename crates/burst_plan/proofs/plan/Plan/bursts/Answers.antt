use Rattle.burst_plan.proofs.PlanLaws.{some_bursts}
use Rattle.burst_plan.proofs.plan.Plan.bursts.Goals as goal

pub returns-clause-some : goal.returns-clause-some
returns-clause-some c = rw c.self.invariant.bursts (some_bursts _ c.self.invariant.plannable)
