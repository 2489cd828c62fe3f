use Rattle.std.proofs.Common.{arith}
use Rattle.std.proofs.lemmas.Grind.{common_steps}
use Rattle.script_text.proofs.reader.Block.next_byte.Goals as goal

pub index-byte-requires : goal.index-byte-requires
index-byte-requires g c = grind (arith, common_steps)

pub invariant_of-self : goal.invariant_of-self
invariant_of-self g c = grind (arith, common_steps)

pub returns-clause-input : goal.returns-clause-input
returns-clause-input g c = grind (arith, common_steps)

pub returns-clause-small : goal.returns-clause-small
returns-clause-small g c = grind (arith, common_steps)
