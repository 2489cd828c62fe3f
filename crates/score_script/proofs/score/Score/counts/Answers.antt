use Rattle.std.proofs.Common.{rules}
use Rattle.score_script.proofs.score.Score.counts.Goals as goal

pub returns : goal.returns
returns c = search rules
