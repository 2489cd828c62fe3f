use Rattle.std.proofs.Common.{rules}
use Rattle.score_script.proofs.score.Score.find.Goals as goal

pub returns-in_ok-settle_alone-in-Time : goal.returns-in_ok-settle_alone-in-Time
returns-in_ok-settle_alone-in-Time c = search rules
