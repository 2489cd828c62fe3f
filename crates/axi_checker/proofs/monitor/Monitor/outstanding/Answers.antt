use Rattle.std.proofs.Common.{rules}
use Rattle.axi_checker.proofs.monitor.Monitor.outstanding.Goals as goal

pub returns : goal.returns
returns g c = search rules
