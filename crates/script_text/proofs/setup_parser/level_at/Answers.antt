use Rattle.std.proofs.Common.{arith}
use Rattle.std.proofs.lemmas.Grind.{elements}
use Rattle.script_text.proofs.setup_parser.level_at.Goals as goal

pub returns-in-Some-eq104 : goal.returns-in-Some-eq104
returns-in-Some-eq104 c = grind (arith, elements) steps 2000000

pub returns-in_default : goal.returns-in_default
returns-in_default c = grind (arith, elements) steps 2000000

pub returns-in_default-2 : goal.returns-in_default-2
returns-in_default-2 c = grind (arith, elements) steps 2000000
