use Rattle.std.proofs.Common.{arith}
use Rattle.std.proofs.lemmas.Grind.{common_steps}
use Rattle.scoreboard.proofs.board.Scoreboard.keep.Goals as goal

pub returns-in-More-clause-more : goal.returns-in-More-clause-more
returns-in-More-clause-more c = grind (arith, common_steps)

pub returns-in-Whole-clause-whole : goal.returns-in-Whole-clause-whole
returns-in-Whole-clause-whole c = grind (arith, common_steps)
