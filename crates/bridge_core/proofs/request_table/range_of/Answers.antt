-- An address and where it leads to are the same byte of a page.
use Rattle.std.proofs.Common.{ℕ, ◌%◌, ◌∙◌, ap}
use Rattle.burst_plan.proofs.TranslationLaws.{same_byte-mod}
use Rattle.bridge_core.proofs.request_table.range_of.Goals as goal

pub new_of-requires-clause-aligned : goal.new_of-requires-clause-aligned
new_of-requires-clause-aligned c =
    rw c.size.ensures.value
    (same_byte-mod c.args.request.now.address c.in_ok-address.address c.args.request.now.size (rw c.size.ensures.value at c.size.ensures.bound) (c.in_ok-address.ensures.place.same_byte ∙ ap (λ (a : ℕ). a % 4096) c.address.ensures) ∙ c.requires.aligned)
