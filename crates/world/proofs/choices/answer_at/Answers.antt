-- The answers are the Bs, and then the Rs.
use Rattle.std.proofs.Common.{◌≡◌, ◌≤◌, ◌∙◌, arith, length}
use Rattle.subordinate.specs.FreeMemory.{ids_with_b}
use Rattle.world.proofs.EnabledSteps.{answer_is_b, answer_is_r}
use Rattle.world.proofs.choices.answer_at.Goals as goal

pub returns-then-k-bs : goal.returns-then-k-bs
returns-then-k-bs c = answer_is_b c.args.device.now.memory c.args.k c.id_with_b.result c.id_with_b.ensures

pub returns : goal.returns
returns c =
    let bs : c.from-bs.result ≡ length (ids_with_b c.args.device.now.memory) = c.from-bs.ensures ∙ c.count_b.ensures.count in
    let past : length (ids_with_b c.args.device.now.memory) ≤ c.args.k = omega (arith, bs, c.if-k-bs.false) in
    answer_is_r c.args.device.now.memory c.args.k c.id_with_r.result past (rw bs at c.id_with_r.ensures)
