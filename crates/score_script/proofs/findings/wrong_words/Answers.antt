use Rattle.std.proofs.Common.{arith}
use Rattle.std.proofs.lemmas.Grind.{common_steps}
use Rattle.score_script.proofs.findings.wrong_words.Goals as goal

pub returns-in_ok-d_words-in-Reply-default-Some : goal.returns-in_ok-d_words-in-Reply-default-Some
returns-in_ok-d_words-in-Reply-default-Some c = grind (arith, common_steps)
