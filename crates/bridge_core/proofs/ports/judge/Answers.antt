use Rattle.std.proofs.Common.{arith}
use Rattle.std.proofs.lemmas.Grind.{elements}
use Rattle.bridge_core.proofs.ports.judge.Goals as goal

pub bounds-ports-from : goal.bounds-ports-from
bounds-ports-from c = grind (arith, elements) steps 2000000

pub returns : goal.returns
returns c = grind (arith, elements) steps 2000000
