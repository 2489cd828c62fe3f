use Rattle.std.proofs.Common.{arith}
use Rattle.std.proofs.lemmas.Grind.{elements}
use Rattle.scoreboard.proofs.board.Scoreboard.source_due.Goals as goal

pub returns-in_err-found : goal.returns-in_err-found
returns-in_err-found c = grind (arith, elements) steps 2000000

pub returns : goal.returns
returns c = grind (arith, elements) steps 2000000
