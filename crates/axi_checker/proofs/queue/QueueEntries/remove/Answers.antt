-- The slot at the place goes behind the others, each of which keeps its entry.
use Rattle.std.proofs.Common.{◌≡◌, ◌∙◌, ◌<◌, ◌≤◌, length, ap, arith}
use Rattle.std.proofs.lemmas.Grind.{common_steps}
use Rattle.std.specs.List.{remove}
use Rattle.axi_checker.specs.Monitors.{OpenSide}
use Rattle.axi_checker.proofs.Slots.{many_at, removed, slots_left}
use Rattle.axi_checker.proofs.queue.QueueEntries.remove.Goals as goal

pub invariant_of-self : goal.invariant_of-self
invariant_of-self g c =
    let q = c.self.inside in
    let long : length q.entries.items ≡ 64 = omega (arith, c.self.invariant.2) in
    let few : q.len ≤ 64 = omega (arith, c.self.invariant.0, c.self.invariant.1) in
    let many = many_at q.entries.items q.filler q.slots q.len few long c.self.invariant.3 in
    let within : c.args.place < q.len = omega (arith, c.requires, many, ap (λ (side : OpenSide g.row.T.Denot). length side.items) c.self.view_is) in (
      omega (arith, c.self.invariant.0),
      c.self.invariant.1,
      c.self.invariant.2,
      slots_left q.entries.items q.filler q.slots q.len few long c.self.invariant.3 c.close_gap.new.bytes c.args.place within
          (omega (arith, c.self.told)) (omega (arith, c.self.told, c.close_gap.auto.bytes)) c.close_gap.ensures,
    )

pub returns-clause-items : goal.returns-clause-items
returns-clause-items g c =
    let q = c.self.inside in
    let long : length q.entries.items ≡ 64 = omega (arith, c.self.invariant.2) in
    let few : q.len ≤ 64 = omega (arith, c.self.invariant.0, c.self.invariant.1) in
    let many = many_at q.entries.items q.filler q.slots q.len few long c.self.invariant.3 in
    let within : c.args.place < q.len = omega (arith, c.requires, many, ap (λ (side : OpenSide g.row.T.Denot). length side.items) c.self.view_is) in
    removed q.entries.items q.filler q.slots q.len few long c.self.invariant.3 c.close_gap.new.bytes c.args.place within
    (omega (arith, c.self.told)) (omega (arith, c.self.told, c.close_gap.auto.bytes)) c.close_gap.ensures
    ∙ ap (λ (side : OpenSide g.row.T.Denot). remove side.items c.args.place) c.self.view_is

pub bounds-self-inside-place : goal.bounds-self-inside-place
bounds-self-inside-place g c = grind (arith, common_steps)
