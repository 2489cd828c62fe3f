-- It is found by the first serial of its queue.
use Rattle.std.proofs.Common.{List, ℕ, sym, ap, subst, ◌∙◌}
use Rattle.std.specs.Prelude.{position, slice_get}
use Rattle.subordinate.specs.Bursts.{Rise, is_in}
use Rattle.subordinate.specs.FreeMemory.{Pending, has_serial}
use Rattle.subordinate.proofs.BurstIndex.{oldest_none, oldest_place}
use Rattle.subordinate.proofs.bursts.Bursts.oldest.Goals as goal

pub returns-in-Some : goal.returns-in-Some
returns-in-Some c =
    let items = c.self.inside.items.items in
    let first = c.first.ensures ∙ ap (λ (row : List ℕ). slice_get row 0) (c.self.invariant.0.row c.args.queue) in
    c.place_of.ensures ∙ ap (λ (bursts : List Pending). position (has_serial c.in-Some.serial) bursts) c.deref.ensures.value
    ∙ oldest_place c.args.queue items c.first.result c.in-Some.serial (subst Rise (sym c.self.view_is) c.requires) first c.in-Some.is
    ∙ ap (λ (bursts : List Pending). position (is_in c.args.queue) bursts) c.self.view_is

pub returns-in-None : goal.returns-in-None
returns-in-None c =
    let first = c.first.ensures ∙ ap (λ (row : List ℕ). slice_get row 0) (c.self.invariant.0.row c.args.queue) in
    sym (oldest_none c.args.queue c.self.inside.items.items c.first.result first c.in-None.is).0 ∙ ap (λ (bursts : List Pending). position (is_in c.args.queue) bursts) c.self.view_is
