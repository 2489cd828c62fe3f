use Rattle.std.proofs.Common.{rules}
use Rattle.setups.proofs.Setup.new.Goals as goal

pub returns-clause-config : goal.returns-clause-config
returns-clause-config c = search rules
