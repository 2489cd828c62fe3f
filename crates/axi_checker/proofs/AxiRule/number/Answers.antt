use Rattle.std.proofs.Common.{rules}
use Rattle.axi_checker.proofs.AxiRule.number.Goals as goal

pub returns : goal.returns
returns c = search rules
