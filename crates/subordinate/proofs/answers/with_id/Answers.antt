-- Just the bit of the ID changes.
use Rattle.std.proofs.Common.{sym, ap, ◌∙◌}
use Rattle.std.specs.Int.{w16}
use Rattle.std.specs.Prelude.{◌==◌}
use Rattle.std.proofs.lemmas.Nat.Bits.{bit_at_clear_other, bit_at_clear_same, bit_at_set_other, bit_at_set_same}
use Rattle.subordinate.proofs.answers.with_id.Goals as goal

pub returns-then-has-clause-here : goal.returns-then-has-clause-here
returns-then-has-clause-here c = ap (λ bit. bit == 1) (bit_at_set_same w16 c.args.ids c.args.id c.requires) ∙ sym c.if-has.true

pub returns-then-has-clause-others : goal.returns-then-has-clause-others
returns-then-has-clause-others c = λ other small differs. ap (λ bit. bit == 1) (bit_at_set_other w16 c.args.ids c.args.id c.requires other differs)

pub returns-else-has-clause-here : goal.returns-else-has-clause-here
returns-else-has-clause-here c = ap (λ bit. bit == 1) (bit_at_clear_same w16 c.args.ids c.args.id c.requires) ∙ sym c.if-has.false

pub returns-else-has-clause-others : goal.returns-else-has-clause-others
returns-else-has-clause-others c = λ other small differs. ap (λ bit. bit == 1) (bit_at_clear_other w16 c.args.ids c.args.id c.requires other small differs)
