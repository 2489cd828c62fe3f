use Rattle.std.proofs.Common.{eqb, not, w8, arith}
use Rattle.std.proofs.lemmas.Simd.{bitmask_splat, length-chunk}
use lib.Lanes.{chunk}
use Rattle.line_text.proofs.WordBits.{of_bytes}
use Rattle.line_text.proofs.word_mask.lanes.Goals as goal

pub returns : goal.returns
returns g c =
    let line = c.args.line.now in
    let long = length-chunk c.args.at g.row.N line c.requires.within in
    let bytes = of_bytes line c.args.at g.row.N _ c.requires.within (bitmask_splat w8 (λ a b. not (eqb a b)) (chunk c.args.at g.row.N line) g.row.N 32 long (omega arith)) in
    record { here = bytes.here; small = bytes.small }
