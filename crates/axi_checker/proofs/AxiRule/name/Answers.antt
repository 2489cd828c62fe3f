use Rattle.std.proofs.Common.{rules}
use Rattle.axi_checker.proofs.AxiRule.name.Goals as goal

pub returns-in-RLast : goal.returns-in-RLast
returns-in-RLast c = search rules
