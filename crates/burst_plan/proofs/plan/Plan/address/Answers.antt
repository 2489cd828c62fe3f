use Rattle.std.proofs.Common.{rules}
use Rattle.burst_plan.proofs.plan.Plan.address.Goals as goal

pub returns : goal.returns
returns c = search rules
