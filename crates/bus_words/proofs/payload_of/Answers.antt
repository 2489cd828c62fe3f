use Rattle.std.proofs.Common.{rules, arith}
use Rattle.std.proofs.lemmas.Grind.{common_steps}
use Rattle.bus_words.proofs.payload_of.Goals as goal

pub returns-clause-value : goal.returns-clause-value
returns-clause-value c = search rules

pub returns-clause-lanes : goal.returns-clause-lanes
returns-clause-lanes c = grind (arith, common_steps)
