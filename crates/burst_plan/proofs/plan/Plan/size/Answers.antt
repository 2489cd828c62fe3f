use Rattle.std.proofs.Common.{rules}
use Rattle.burst_plan.proofs.plan.Plan.size.Goals as goal

pub returns-clause-value : goal.returns-clause-value
returns-clause-value c = search rules
