use Rattle.std.proofs.Common.{rules}
use Rattle.axi_checker.proofs.monitor.Monitor.take.Goals as goal

pub returns-in-R-clause-answer : goal.returns-in-R-clause-answer
returns-in-R-clause-answer g c = search rules
