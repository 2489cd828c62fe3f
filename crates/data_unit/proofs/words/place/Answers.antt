-- The number cut down to its bytes, and moved up to the range's first lane.
use Rattle.std.proofs.Common.{ap, ◌∙◌}
use Rattle.data_unit.specs.Words.{operand_in}
use Rattle.data_unit.proofs.WordLaws.{placed_at-masked, operand_in-placed_at, operand_bytes-le}
use Rattle.data_unit.proofs.words.place.Goals as goal

pub largest-requires-clause-most : goal.largest-requires-clause-most
largest-requires-clause-most c = operand_bytes-le c.args.size c.requires.size

pub returns-clause-value : goal.returns-clause-value
returns-clause-value c = placed_at-masked c.args.value c.args.address c.args.size c.largest.result c.requires.size c.requires.aligned c.largest.ensures

pub returns-clause-comes_back : goal.returns-clause-comes_back
returns-clause-comes_back c =
    λ fits.
    ap (λ word. operand_in word c.args.address c.args.size) (placed_at-masked c.args.value c.args.address c.args.size c.largest.result c.requires.size c.requires.aligned c.largest.ensures)
    ∙ operand_in-placed_at c.args.value c.args.address c.args.size c.requires.size c.requires.aligned fits
