use Rattle.std.proofs.Common.{◌≡◌, refl, arith, sym, ◌∙◌, ap}
use Rattle.axi_checker.specs.Monitors.{MonitorState, monitor_state}
use Rattle.axi_checker.specs.OpenBursts.{open_after}
use Rattle.axi_checker.specs.declared.AxiBeat.TheVariants.{Aw as OnAw}
use Rattle.axi_checker.specs.Order.{writes_lack}
use Rattle.axi_checker.proofs.Lasts.{writes_lack-append}
use Rattle.axi_checker.proofs.SoundMonitors.{sound-open_after, sound_write_room}
use Rattle.axi_checker.proofs.monitor.Monitor.aw.Goals as goal

pub add-requires : goal.add-requires
add-requires g c =
    let old = c.self.inside in
    sound_write_room (monitor_state old.limits old.writes.items old.reads.items) c.args.self.now c.args.beat.now old.writes.room old.reads.room c.self.invariant c.self.view_is
    (sym c.aw_fault.ensures ∙ c.in_default.is)

pub invariant_of-self : goal.invariant_of-self
invariant_of-self g c =
    let old = c.self.inside in
    let writes = c.add.new.self in
    sound-open_after (monitor_state old.limits old.writes.items old.reads.items) c.args.self.now (OnAw c.args.beat.now) writes.items old.reads.items old.writes.room old.reads.room
    writes.room old.reads.room c.self.invariant c.self.view_is (sym c.aw_fault.ensures ∙ c.in_default.is) c.add.ensures.items refl (omega (arith, c.add.ensures.room)) (omega arith)

pub returns-clause-order : goal.returns-clause-order
returns-clause-order g c =
    λ ok.
    let now = c.args.self.now in
    let aw = c.args.beat.now in
    let after : c.add.new.self.items ≡ (open_after now.open_bursts (OnAw aw)).writes = c.add.ensures.items ∙ ap (λ (m : MonitorState). (open_after m.open_bursts (OnAw aw)).writes) c.self.view_is in
    ap writes_lack after ∙ writes_lack-append now.open_bursts.writes (record { aw = aw; came = 0 })
