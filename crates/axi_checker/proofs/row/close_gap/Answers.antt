-- What was stored at the place is what was read behind it.
use Rattle.std.proofs.Common.{◌+◌, arith}
use Rattle.std.proofs.lemmas.Simd.{length-chunk, take_more_put_chunk}
use lib.Lanes.{chunk}
use Rattle.axi_checker.proofs.row.close_gap.Goals as goal

pub returns : goal.returns
returns c =
    let place = c.args.place in
    let bytes = c.args.bytes.now in
    let count = length-chunk (place + 1) 64 bytes (omega (arith, c.requires)) in
    take_more_put_chunk place bytes (chunk (place + 1) 64 bytes) (place + 64) (omega (arith, count)) (omega (arith, c.requires))
