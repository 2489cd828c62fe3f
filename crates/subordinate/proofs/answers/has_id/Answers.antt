-- No set has an ID above its bits.
use Rattle.std.proofs.Common.{arith, sym, ap, ◌∙◌}
use Rattle.std.specs.Prelude.{◌==◌}
use Rattle.std.proofs.lemmas.Bool.{le-ltb}
use Rattle.std.proofs.lemmas.Nat.Bits.{bit_at_above}
use Rattle.subordinate.proofs.answers.has_id.Goals as goal

pub returns-else-id-lt16 : goal.returns-else-id-lt16
returns-else-id-lt16 c =
    le-ltb c.args.id 16 (omega (arith, c.if-id-lt16.false))
    ∙ sym (ap (λ bit. bit == 1) (bit_at_above c.args.ids 16 c.args.id (omega (arith, c.ranges.ids)) (omega (arith, c.if-id-lt16.false))))
