use Rattle.std.proofs.Common.{arith}
use Rattle.std.proofs.lemmas.Grind.{elements}
use Rattle.scoreboard.proofs.flights.Flights.clear.Goals as goal

pub loop-due-preserved : goal.loop-due-preserved
loop-due-preserved c = grind (arith, elements) steps 2000000
