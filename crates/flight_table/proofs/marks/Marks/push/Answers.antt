use Rattle.std.proofs.Common.{◌+◌, [], ◌∷◌, ◌++◌, arith, length-append}
use Rattle.flight_table.proofs.MarkLaws.{as_marks, as_number, pushed_bits}
use Rattle.flight_table.proofs.marks.Marks.push.Goals as goal

pub returns : goal.returns
returns c =
    let i = c.self.inside in
    let marks = c.args.self.now in
    let known = as_number i.count i.bits marks c.self.view_is c.self.invariant.1 in
    as_marks (i.count + 1) _ (marks ++ c.args.mark ∷ []) (omega (arith, known.0, length-append marks (c.args.mark ∷ [])))
    (rw (known.0, known.1) (pushed_bits marks c.args.mark c.from.result c.requires c.from.ensures))
