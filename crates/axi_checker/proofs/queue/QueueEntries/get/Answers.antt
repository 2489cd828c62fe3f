-- The entry at a place stands in the slot at that place.
use Rattle.std.proofs.Common.{◌≡◌, ◌∙◌, ◌<◌, ◌≤◌, get_or, length, ap, arith}
use Rattle.axi_checker.specs.Monitors.{OpenSide}
use Rattle.axi_checker.proofs.Slots.{got, many_at, slot_within}
use Rattle.axi_checker.proofs.queue.QueueEntries.get.Goals as goal

pub index-requires : goal.index-requires
index-requires g c =
    let q = c.self.inside in
    let long : length q.entries.items ≡ 64 = omega (arith, c.self.invariant.2) in
    let few : q.len ≤ 64 = omega (arith, c.self.invariant.0, c.self.invariant.1) in
    let many = many_at q.entries.items q.filler q.slots q.len few long c.self.invariant.3 in
    let within : c.args.place < 64 = omega (arith, c.requires, few, many, ap (λ (side : OpenSide g.row.T.Denot). length side.items) c.self.view_is) in
    omega (arith, c.from.ensures, c.self.invariant.2, slot_within q.entries.items q.filler q.slots q.len few long c.self.invariant.3 c.args.place within)

pub returns-clause-value : goal.returns-clause-value
returns-clause-value g c =
    let q = c.self.inside in
    let long : length q.entries.items ≡ 64 = omega (arith, c.self.invariant.2) in
    let few : q.len ≤ 64 = omega (arith, c.self.invariant.0, c.self.invariant.1) in
    let many = many_at q.entries.items q.filler q.slots q.len few long c.self.invariant.3 in
    let within : c.args.place < q.len = omega (arith, c.requires, many, ap (λ (side : OpenSide g.row.T.Denot). length side.items) c.self.view_is) in
    c.index.ensures
    ∙ ap (λ slot. get_or q.entries.items slot c.index.result.now) c.from.ensures
    ∙ got q.entries.items q.filler q.slots q.len few long c.self.invariant.3 c.args.place c.index.result.now within
    ∙ ap (λ (side : OpenSide g.row.T.Denot). get_or side.items c.args.place c.index.result.now) c.self.view_is
