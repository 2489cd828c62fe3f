use Rattle.std.proofs.Common.{◌≡◌, List, ◌++◌, refl, ap, subst, ◌∙◌, arith}
use Rattle.std.proofs.lemmas.List.{append-nil}
use Rattle.axi_checker.specs.Monitors.{IsWithinLimits, MonitorState, monitor_state}
use Rattle.axi_checker.specs.OpenBursts.{OpenRead, open_after}
use Rattle.axi_checker.specs.declared.AxiBeat.TheVariants.{R as OnR}
use Rattle.axi_checker.specs.Order.{read_given, reads_owe}
use Rattle.axi_checker.proofs.InOrder.{reads_step}
use Rattle.axi_checker.proofs.SoundMonitors.{sound-open_after}
use Rattle.axi_checker.proofs.monitor.Monitor.r.Goals as goal

pub invariant_of-self : goal.invariant_of-self
invariant_of-self g c =
    let old = c.self.inside in
    let reads = c.answer.new.self in
    sound-open_after (monitor_state old.limits old.writes.items old.reads.items) c.args.self.now (OnR c.args.beat.now) old.writes.items reads.items old.writes.room old.reads.room
    old.writes.room reads.room c.self.invariant c.self.view_is c.in_ok-place.ensures.0 refl c.answer.ensures.items (omega arith) (omega (arith, c.answer.ensures.room))

pub returns-clause-order : goal.returns-clause-order
returns-clause-order g c =
    λ ok id.
    let now = c.args.self.now in
    let beat = OnR c.args.beat.now in
    let within : IsWithinLimits now.port now.open_bursts = subst (λ (m : MonitorState). IsWithinLimits m.port m.open_bursts) c.self.view_is c.self.invariant.within in
    let after : c.answer.new.self.items ≡ (open_after now.open_bursts beat).reads = c.answer.ensures.items ∙ ap (λ (m : MonitorState). (open_after m.open_bursts beat).reads) c.self.view_is in
    ap (λ (reads : List OpenRead). read_given id beat ++ reads_owe id reads) after
    ∙ reads_step now.port now.open_bursts beat id c.in_ok-place.ensures.0 within
    ∙ append-nil (reads_owe id now.open_bursts.reads)
