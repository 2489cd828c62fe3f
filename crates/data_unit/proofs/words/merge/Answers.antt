-- The wide mask takes each strobed lane from the new word, and its complement every other lane from the old one.
use Rattle.data_unit.proofs.WordLaws.{merged-masked}
use Rattle.data_unit.proofs.words.merge.Goals as goal

pub returns : goal.returns
returns c = merged-masked c.args.old c.args.new c.args.strobes c.widened-wide.result c.ranges.old.fits c.ranges.new.fits c.widened-wide.type_inv c.widened-wide.ensures
