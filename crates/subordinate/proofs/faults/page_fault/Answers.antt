use Rattle.std.proofs.Common.{arith}
use Rattle.std.proofs.lemmas.Grind.{common_steps}
use Rattle.subordinate.proofs.faults.page_fault.Goals as goal

pub returns-then-is_listed : goal.returns-then-is_listed
returns-then-is_listed c = grind (arith, common_steps)

pub loop-place-preserved : goal.loop-place-preserved
loop-place-preserved c = grind (arith, common_steps)
