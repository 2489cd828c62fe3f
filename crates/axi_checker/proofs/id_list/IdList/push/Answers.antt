-- No count is above the length, and that is below the room.
use Rattle.std.proofs.Common.{◌<◌, ℕ, length, sym, subst, arith}
use Rattle.axi_checker.specs.Monitors.{OpenSide}
use Rattle.axi_checker.proofs.IdCounts.{count_within, counted-append}
use Rattle.axi_checker.proofs.id_list.IdList.push.Goals as goal

pub overflow_add-self : goal.overflow_add-self
overflow_add-self g c =
    let ids = (g.I.Ids.side c.self.inside.ids).items in
    let room = subst (λ (side : OpenSide ℕ). length side.items < side.room) (sym c.self.view_is) c.requires in
    rw c.from.ensures (omega (arith, room, c.self.invariant.1, c.self.invariant.0.each c.args.id c.ranges.id.fits, count_within c.args.id ids))

pub invariant_of-self : goal.invariant_of-self
invariant_of-self g c =
    let inside = c.self.inside in
    let small : c.args.id < 256 = c.ranges.id.fits in
    let after = counted-append inside.counts (g.I.Ids.side inside.ids).items c.args.id c.self.invariant.0 (omega (arith, small, c.self.told)) small in
    (rw (c.from.ensures, c.push.ensures.items) after, omega (arith, c.push.ensures.room, c.self.invariant.1))
