use Rattle.flight_table.proofs.MarkLaws.{masked_out, unit_is}
use Rattle.flight_table.proofs.marks.without_bit.Goals as goal

pub returns : goal.returns
returns c = rw (unit_is c.args.place c.requires) (masked_out c.args.bits c.args.place c.requires c.ranges.bits.fits)
