use Rattle.std.proofs.Common.{arith}
use Rattle.std.proofs.lemmas.Grind.{common_steps}
use Rattle.subordinate.proofs.faults.word_fault.Goals as goal

pub returns-then-is_no_word : goal.returns-then-is_no_word
returns-then-is_no_word c = grind (arith, common_steps)

pub loop-place-preserved : goal.loop-place-preserved
loop-place-preserved c = grind (arith, common_steps)

pub returns : goal.returns
returns c = grind (arith, common_steps)
