use Rattle.std.proofs.Common.{rules}
use Rattle.score_script.proofs.lines.settles.Goals as goal

pub returns-in-97-3 : goal.returns-in-97-3
returns-in-97-3 c = search rules
