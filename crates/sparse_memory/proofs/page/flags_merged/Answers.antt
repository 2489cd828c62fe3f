use Rattle.sparse_memory.proofs.FlagLaws.{merged-masks}
use Rattle.sparse_memory.proofs.page.flags_merged.Goals as goal

pub returns : goal.returns
returns c = merged-masks c.args.old c.args.new c.args.strobes c.ranges.old.fits c.ranges.new.fits c.ranges.strobes.fits
