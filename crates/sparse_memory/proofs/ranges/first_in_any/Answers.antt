-- One range more.
use Rattle.std.proofs.Common.{ℕ, List, [], Option, ap, ap₂, refl, sym, take, ◌∙◌, ◌+◌}
use Rattle.std.specs.Prelude.{find}
use Rattle.std.specs.List.{list_any, range_with_len}
use Rattle.std.proofs.lemmas.List.{take_all, take_more}
use Rattle.sparse_memory.specs.Ranges.{has_page, lower}
use Rattle.sparse_memory.specs.declared.PageRange.{PageRange}
use Rattle.sparse_memory.proofs.SharedPages.{find-missing, shared-more}
use Rattle.sparse_memory.proofs.ranges.first_in_any.Goals as goal

pub loop-other-init : goal.loop-other-init
loop-other-init c = sym (find-missing (λ k. list_any (has_page (c.args.range.now.first + k)) []) 0 c.args.range.now.count (λ j above below. refl))

pub loop-other-preserved : goal.loop-other-preserved
loop-other-preserved c =
    let range = c.args.range.now in
    let first : List PageRange → Option ℕ = λ others. find (λ k. list_any (has_page (range.first + k)) others) (range_with_len 0 range.count) in
    c.lower-first.ensures
    ∙ ap₂ lower c.loop-other.invariant c.first_in.ensures
    ∙ shared-more range (take c.loop-other.other-index c.args.others.now) _
    ∙ sym (ap first (take_more c.args.others.now c.loop-other.other-index _ c.loop-other-test.true))

pub returns : goal.returns
returns c =
    let range = c.args.range.now in
    c.loop-other.invariant ∙ ap (λ others. find (λ k. list_any (has_page (range.first + k)) others) (range_with_len 0 range.count)) (take_all c.loop-other.other-index c.args.others.now c.loop-other-test.false)
