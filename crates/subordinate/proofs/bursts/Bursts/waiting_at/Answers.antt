-- As many beats wait as are counted, so the number from the last back is known.
use Rattle.std.proofs.Common.{◌≡◌, ◌-◌, List, length, sym, ap, subst, ◌∙◌, arith}
use Rattle.std.specs.Prelude.{Some, flat_map, slice_get}
use Rattle.subordinate.specs.FreeMemory.{Pending, waiting_in}
use Rattle.subordinate.proofs.BeatStates.{length-waiting_beats}
use Rattle.subordinate.proofs.bursts.Bursts.waiting_at.Goals as goal

pub overflow_sub-left : goal.overflow_sub-left
overflow_sub-left c = omega (arith, c.requires, c.self.invariant.1.waits.sum, length-waiting_beats c.self.inside.items.items, ap (λ (bursts : List Pending). length (flat_map waiting_in bursts)) c.self.view_is)

pub waiting_back-requires-clause-some : goal.waiting_back-requires-clause-some
waiting_back-requires-clause-some c =
    omega (arith, c.requires, c.self.invariant.1.waits.sum, length-waiting_beats c.self.inside.items.items, ap (λ (bursts : List Pending). length (flat_map waiting_in bursts)) c.self.view_is)

pub returns-else-k-left : goal.returns-else-k-left
returns-else-k-left c =
    let items = c.self.inside.items.items in
    let many = c.self.invariant.1.waits.sum in
    let place : length (flat_map waiting_in items) - (c.self.inside.waiting - c.args.k) ≡ c.args.k =
    omega (arith, c.requires, many, length-waiting_beats items, ap (λ (bursts : List Pending). length (flat_map waiting_in bursts)) c.self.view_is)
    in
    ap (λ (bursts : List Pending). slice_get (flat_map waiting_in bursts) c.args.k) (sym c.self.view_is)
    ∙ ap (slice_get (flat_map waiting_in items)) (sym place)
    ∙ subst (λ (bursts : List Pending). slice_get (flat_map waiting_in bursts) (length (flat_map waiting_in bursts) - (c.self.inside.waiting - c.args.k)) ≡ Some c.waiting_back.result) c.deref-else-k-left.ensures.value c.waiting_back.ensures
