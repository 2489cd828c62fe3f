use Rattle.std.proofs.Common.{rules}
use Rattle.axi_checker.proofs.monitor.LargeMonitor.of_any_depth.Goals as goal

pub invariant_of-result : goal.invariant_of-result
invariant_of-result c = search rules
