use Rattle.std.proofs.Common.{rules}
use Rattle.score_script.proofs.observation.SetUp.new.Goals as goal

pub returns-clause-number : goal.returns-clause-number
returns-clause-number c = search rules
