use Rattle.std.proofs.Common.{rules}
use Rattle.burst_plan.proofs.page_map.address_in.Goals as goal

pub returns : goal.returns
returns c = search rules
