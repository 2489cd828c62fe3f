-- No other place has the slot of this one.
use Rattle.std.proofs.Common.{◌≡◌, ◌∙◌, ◌<◌, ◌≤◌, set, take, length, ap, arith}
use Rattle.axi_checker.specs.Monitors.{OpenSide}
use Rattle.axi_checker.specs.Slots.{at_slots}
use Rattle.axi_checker.proofs.Slots.{many_at, slot_within, stored}
use Rattle.axi_checker.proofs.queue.QueueEntries.put.Goals as goal

pub index_mut-requires : goal.index_mut-requires
index_mut-requires g c =
    let q = c.self.inside in
    let long : length q.entries.items ≡ 64 = omega (arith, c.self.invariant.2) in
    let few : q.len ≤ 64 = omega (arith, c.self.invariant.0, c.self.invariant.1) in
    let many = many_at q.entries.items q.filler q.slots q.len few long c.self.invariant.3 in
    let within : c.args.place < 64 = omega (arith, c.requires, few, many, ap (λ (side : OpenSide g.row.T.Denot). length side.items) c.self.view_is) in
    omega (arith, c.from.ensures, c.self.invariant.2, slot_within q.entries.items q.filler q.slots q.len few long c.self.invariant.3 c.args.place within)

pub returns-clause-items : goal.returns-clause-items
returns-clause-items g c =
    let q = c.self.inside in
    let long : length q.entries.items ≡ 64 = omega (arith, c.self.invariant.2) in
    let few : q.len ≤ 64 = omega (arith, c.self.invariant.0, c.self.invariant.1) in
    let many = many_at q.entries.items q.filler q.slots q.len few long c.self.invariant.3 in
    let within : c.args.place < q.len = omega (arith, c.requires, many, ap (λ (side : OpenSide g.row.T.Denot). length side.items) c.self.view_is) in
    ap (λ slot. at_slots (set q.entries.items slot c.args.entry) q.filler (take q.len q.slots)) c.from.ensures
    ∙ stored q.entries.items q.filler q.slots q.len few long c.self.invariant.3 c.args.place c.args.entry within
    ∙ ap (λ (side : OpenSide g.row.T.Denot). set side.items c.args.place c.args.entry) c.self.view_is
