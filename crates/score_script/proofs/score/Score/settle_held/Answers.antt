use Rattle.std.proofs.Common.{rules}
use Rattle.score_script.proofs.score.Score.settle_held.Goals as goal

pub returns-in-Err : goal.returns-in-Err
returns-in-Err c = search rules
