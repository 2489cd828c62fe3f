-- The word moved down to the range's first lane, and cut down to its bytes.
use Rattle.data_unit.proofs.WordLaws.{operand_in-masked, operand_bytes-le}
use Rattle.data_unit.proofs.words.cut.Goals as goal

pub largest-requires-clause-most : goal.largest-requires-clause-most
largest-requires-clause-most c = operand_bytes-le c.args.size c.requires.size

pub returns-clause-value : goal.returns-clause-value
returns-clause-value c = operand_in-masked c.args.word c.args.address c.args.size c.largest.result c.requires.size c.requires.aligned c.largest.ensures
