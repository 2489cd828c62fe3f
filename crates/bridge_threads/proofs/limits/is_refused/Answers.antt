use Rattle.std.proofs.Common.{arith}
use Rattle.std.proofs.lemmas.Grind.{common_steps}
use Rattle.bridge_threads.proofs.limits.is_refused.Goals as goal

pub returns-then-scripts-from : goal.returns-then-scripts-from
returns-then-scripts-from c = grind (arith, common_steps)

pub returns-then-words-lt1 : goal.returns-then-words-lt1
returns-then-words-lt1 c = grind (arith, common_steps)

pub returns-then-limits-eq0 : goal.returns-then-limits-eq0
returns-then-limits-eq0 c = grind (arith, common_steps)

pub returns-else-limits-eq0 : goal.returns-else-limits-eq0
returns-else-limits-eq0 c = grind (arith, common_steps)
