use Rattle.std.proofs.Common.{rules}
use Rattle.axi_checker.proofs.rules.PortLimits.data_fault.Goals as goal

pub returns-then-not-strobes_fit : goal.returns-then-not-strobes_fit
returns-then-not-strobes_fit c = search rules
