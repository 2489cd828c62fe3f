use Rattle.std.proofs.Common.{ltb, cond, refl, arith}
use Rattle.std.proofs.lemmas.Simd.{zip2_splat, length-chunk}
use lib.Lanes.{chunk}
use Rattle.line_text.specs.Words.{is_plain_byte}
use Rattle.line_text.proofs.LoadedLanes.{itself, joined, passes_in, splat_is}
use Rattle.line_text.proofs.plain.plain_run.Goals as goal

pub returns : goal.returns
returns c =
    let v = chunk c.args.at 32 c.args.bytes.now in
    let long = length-chunk c.args.at 32 c.args.bytes.now c.requires in
    let above = joined (λ a b. cond (ltb a b) 255 0) _ _ v (splat_is v 32 126 long) (itself v) in
    passes_in is_plain_byte c.args.bytes.now c.args.at 32 _ _ c.requires (omega arith) c.type_inv.bytes c.first_set.ensures _
    (joined _ _ _ v (zip2_splat _ v 32 32 long) above) refl
