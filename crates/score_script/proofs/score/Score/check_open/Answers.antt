use Rattle.std.proofs.Common.{rules}
use Rattle.score_script.proofs.score.Score.check_open.Goals as goal

pub returns-clause-open : goal.returns-clause-open
returns-clause-open c = search rules
