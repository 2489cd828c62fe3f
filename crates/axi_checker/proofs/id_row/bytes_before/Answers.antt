-- The lowest bit of the mask is at the first byte that is this one.
use Rattle.std.proofs.Common.{◌==◌, ap, ◌∙◌, w8, arith}
use Rattle.std.specs.Int.Count.{count_trailing_zeros}
use Rattle.std.proofs.lemmas.Simd.{bitmask_splat, length-chunk}
use lib.Lanes.{chunk}
use Rattle.axi_checker.proofs.RowPlaces.{lowest_bit}
use Rattle.axi_checker.proofs.id_row.bytes_before.Goals as goal

pub returns : goal.returns
returns c =
    let v = chunk 0 64 c.args.bytes.now in
    let long = length-chunk 0 64 c.args.bytes.now c.requires in
    ap (count_trailing_zeros 64) (bitmask_splat w8 (λ a b. a == b) v 64 c.args.byte long (omega arith)) ∙ lowest_bit (λ other. other == c.args.byte) v long
