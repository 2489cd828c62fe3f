-- The ones of a word, moved down until so many bytes are left.
use Rattle.std.proofs.Common.{◌≡◌, ◌-◌, ◌*◌, ◌^◌, ap, arith, ◌∙◌}
use Rattle.std.proofs.lemmas.Nat.Bits.{ones_shr}
use Rattle.data_unit.proofs.words.largest.Goals as goal

pub returns : goal.returns
returns c =
    let left : 64 - (64 - 8 * c.args.operand_bytes) ≡ 8 * c.args.operand_bytes = omega arith in
    ones_shr 64 (64 - 8 * c.args.operand_bytes) (omega arith) ∙ ap (λ k. 2 ^ k - 1) left
