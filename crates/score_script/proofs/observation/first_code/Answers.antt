use Rattle.std.proofs.Common.{rules}
use Rattle.score_script.proofs.observation.first_code.Goals as goal

pub returns-then-code-gt0 : goal.returns-then-code-gt0
returns-then-code-gt0 c = search rules
