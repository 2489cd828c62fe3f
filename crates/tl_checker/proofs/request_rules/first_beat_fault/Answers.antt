use Rattle.std.proofs.Common.{arith}
use Rattle.std.proofs.lemmas.Grind.{common_steps}
use Rattle.tl_checker.proofs.request_rules.first_beat_fault.Goals as goal

pub returns-then-busy : goal.returns-then-busy
returns-then-busy c = grind (arith, common_steps)
