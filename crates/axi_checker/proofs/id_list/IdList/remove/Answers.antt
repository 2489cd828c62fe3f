-- The ID at the place is taken out of the list, and of its count.
use Rattle.std.proofs.Common.{◌≡◌, ◌<◌, ℕ, length, arith}
use Rattle.axi_checker.specs.Monitors.{OpenSide}
use Rattle.axi_checker.proofs.IdCounts.{counted-remove, one_counted}
use Rattle.axi_checker.proofs.id_list.IdList.remove.Goals as goal

within : (place : ℕ) (inside now : OpenSide ℕ) → inside ≡ now → place < length now.items → place < length inside.items
within place inside now is here = rw is here

pub overflow_sub-self : goal.overflow_sub-self
overflow_sub-self g c =
    let inside = c.self.inside in
    let ids = g.I.Ids.side inside.ids in
    let id = c.remove-id.result in
    let small : id < 256 = c.remove-id.type_inv in
    let here = within c.args.place ids c.args.self.now c.self.view_is c.requires in
    rw c.from.ensures (one_counted inside.counts ids.items id c.self.invariant.0 (omega (arith, small, c.self.told)) small c.args.place here c.remove-id.ensures.value)

pub invariant_of-self : goal.invariant_of-self
invariant_of-self g c =
    let inside = c.self.inside in
    let ids = g.I.Ids.side inside.ids in
    let id = c.remove-id.result in
    let small : id < 256 = c.remove-id.type_inv in
    let here = within c.args.place ids c.args.self.now c.self.view_is c.requires in
    let after = counted-remove inside.counts ids.items id c.self.invariant.0 (omega (arith, small, c.self.told)) small c.args.place here c.remove-id.ensures.value in
    (rw (c.from.ensures, c.remove-id.ensures.items) after, omega (arith, c.remove-id.ensures.room, c.self.invariant.1))
