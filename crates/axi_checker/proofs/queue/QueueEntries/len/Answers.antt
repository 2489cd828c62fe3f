-- Each slot has its entry.
use Rattle.std.proofs.Common.{◌≡◌, ◌∙◌, length, ap, arith}
use Rattle.axi_checker.specs.Monitors.{OpenSide}
use Rattle.axi_checker.proofs.Slots.{many_at}
use Rattle.axi_checker.proofs.queue.QueueEntries.len.Goals as goal

pub returns-clause-count : goal.returns-clause-count
returns-clause-count g c =
    let q = c.self.inside in
    let long : length q.entries.items ≡ 64 = omega (arith, c.self.invariant.2) in
    many_at q.entries.items q.filler q.slots q.len (omega (arith, c.self.invariant.0, c.self.invariant.1)) long c.self.invariant.3
    ∙ ap (λ (side : OpenSide g.row.T.Denot). length side.items) c.self.view_is
