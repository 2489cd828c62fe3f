use Rattle.std.proofs.Common.{arith}
use Rattle.std.proofs.lemmas.Grind.{common_steps}
use Rattle.axi_checker.proofs.rules.PortLimits.next_lanes.Goals as goal

pub returns : goal.returns
returns c = grind (arith, common_steps)
