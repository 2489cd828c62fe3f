use Rattle.std.proofs.Common.{rules}
use Rattle.burst_plan.proofs.page_map.PageMap.of_observed.Goals as goal

pub returns-in-Err-clause-err : goal.returns-in-Err-clause-err
returns-in-Err-clause-err c = search rules
