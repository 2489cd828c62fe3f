-- An operand has eight bytes at most.
use Rattle.data_unit.proofs.WordLaws.{operand_bytes-le}
use Rattle.value_board.proofs.made.made_word.Goals as goal

pub apply-made-requires-clause-most : goal.apply-made-requires-clause-most
apply-made-requires-clause-most c = operand_bytes-le c.args.step.size c.requires.small
