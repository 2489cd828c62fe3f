use Rattle.std.proofs.Common.{arith}
use Rattle.flight_table.proofs.MarkLaws.{as_number}
use Rattle.flight_table.proofs.marks.Marks.first.Goals as goal

pub returns : goal.returns
returns c =
    let known = as_number c.self.inside.count c.self.inside.bits c.args.self.now c.self.view_is c.self.invariant.1 in
    c.first_bit.ensures c.args.self.now (omega (arith, known.0, c.self.invariant.0)) known.1
