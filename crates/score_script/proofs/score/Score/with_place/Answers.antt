use Rattle.std.proofs.Common.{rules}
use Rattle.score_script.proofs.score.Score.with_place.Goals as goal

pub returns-in-Some : goal.returns-in-Some
returns-in-Some c = search rules
