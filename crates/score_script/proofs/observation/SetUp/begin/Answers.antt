use Rattle.std.proofs.Common.{rules}
use Rattle.score_script.proofs.observation.SetUp.begin.Goals as goal

pub returns-in_err-score-clause-score : goal.returns-in_err-score-clause-score
returns-in_err-score-clause-score c = search rules
