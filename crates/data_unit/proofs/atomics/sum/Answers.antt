-- The sum cut to 64 bits, and then to fewer.
use Rattle.std.proofs.Common.{◌≡◌, ℕ, ◌+◌, ◌*◌, ◌-◌, ◌%◌, ◌^◌, ◌≤◌, ap, arith, ◌∙◌}
use Rattle.std.specs.Prelude.{bit_and}
use Rattle.std.proofs.Math.Pow.{mod-mod-pow}
use Rattle.data_unit.specs.Atomics.{modulus}
use Rattle.data_unit.proofs.WordLaws.{and-largest}
use Rattle.data_unit.proofs.atomics.sum.Goals as goal

cut_twice : (number count : ℕ) → count ≤ 8 → number % 2 ^ 64 % modulus count ≡ number % modulus count
cut_twice number count most =
    let parts : 64 - 8 * count + 8 * count ≡ 64 = omega arith in
    rw parts at (mod-mod-pow number (64 - 8 * count) (8 * count))

pub returns : goal.returns
returns c =
    ap (λ mask. bit_and ((c.args.first + c.args.second) % 2 ^ 64) mask) c.largest.ensures
    ∙ and-largest ((c.args.first + c.args.second) % 2 ^ 64) c.args.operand_bytes
    ∙ cut_twice (c.args.first + c.args.second) c.args.operand_bytes c.requires.most
