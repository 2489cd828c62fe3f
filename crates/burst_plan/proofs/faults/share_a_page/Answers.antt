use Rattle.std.proofs.Common.{rules}
use Rattle.burst_plan.proofs.faults.share_a_page.Goals as goal

pub returns-else-a-gt0 : goal.returns-else-a-gt0
returns-else-a-gt0 c = search rules
