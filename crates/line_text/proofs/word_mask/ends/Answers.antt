use Rattle.std.proofs.Common.{◌-◌, length, arith}
use Rattle.line_text.proofs.WordBits.{joined_mask}
use Rattle.line_text.proofs.word_mask.ends.Goals as goal

pub returns : goal.returns
returns g c =
    let a = c.lanes.ensures in
    let b = c.lanes-2.ensures in
    joined_mask c.args.line.now g.row.N (length c.args.line.now - g.row.N) c.lanes.result c.lanes-2.result (omega arith) (omega arith) (record { here = a.here; small = a.small }) (record { here = b.here; small = b.small }) (omega arith) (omega arith)
