use Rattle.std.proofs.Common.{rules}
use Rattle.axi_checker.proofs.monitor.Monitor.new.Goals as goal

pub returns : goal.returns
returns c = search rules
