use Rattle.std.proofs.Common.{rules}
use Rattle.score_script.proofs.score.begins_after.Goals as goal

pub returns-in_default : goal.returns-in_default
returns-in_default c = search rules
