use Rattle.std.proofs.Common.{arith}
use Rattle.flight_table.specs.Marks.{both}
use Rattle.flight_table.proofs.MarkLaws.{as_number, both_bits, length-both}
use Rattle.flight_table.proofs.marks.Marks.first_common.Goals as goal

pub returns : goal.returns
returns c =
    let marks = c.args.self.now in
    let others = c.args.other.now in
    let known = as_number c.self.inside.count c.self.inside.bits marks c.self.view_is c.self.invariant.1 in
    let other = as_number c.other.inside.count c.other.inside.bits others c.other.view_is c.other.invariant.1 in
    c.first_bit.ensures (both marks others) (omega (arith, length-both marks others, known.0, c.self.invariant.0)) (rw (known.1, other.1) (both_bits marks others))
