-- The bits of both are the lanes that are left.
use Rattle.byte_values.proofs.LaneSets.{without-bits}
use Rattle.byte_values.proofs.lanes.without.Goals as goal

pub returns : goal.returns
returns c = without-bits c.args.lanes c.args.others c.ranges.lanes.fits c.ranges.others.fits
