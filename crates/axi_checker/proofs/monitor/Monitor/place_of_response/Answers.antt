use Rattle.std.proofs.Common.{rules}
use Rattle.axi_checker.proofs.monitor.Monitor.place_of_response.Goals as goal

pub returns-then-is_exokay : goal.returns-then-is_exokay
returns-then-is_exokay g c = search rules
