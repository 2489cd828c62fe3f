use Rattle.std.proofs.Common.{arith}
use Rattle.std.proofs.lemmas.Grind.{elements}
use Rattle.scoreboard.proofs.board.Scoreboard.telling.Goals as goal

pub returns-in-None : goal.returns-in-None
returns-in-None c = grind (arith, elements) steps 2000000

pub returns-in-Some : goal.returns-in-Some
returns-in-Some c = grind (arith, elements) steps 2000000
