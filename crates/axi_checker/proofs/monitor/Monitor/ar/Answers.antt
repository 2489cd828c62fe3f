use Rattle.std.proofs.Common.{◌≡◌, refl, arith, sym, ◌∙◌, ap}
use Rattle.axi_checker.specs.Monitors.{MonitorState, monitor_state}
use Rattle.axi_checker.specs.OpenBursts.{open_after}
use Rattle.axi_checker.specs.declared.AxiBeat.TheVariants.{Ar as OnAr}
use Rattle.axi_checker.specs.Order.{reads_owe}
use Rattle.axi_checker.proofs.Lasts.{reads_owe-append}
use Rattle.axi_checker.proofs.SoundMonitors.{sound-open_after, sound_read_room}
use Rattle.axi_checker.proofs.monitor.Monitor.ar.Goals as goal

pub add-requires : goal.add-requires
add-requires g c =
    let old = c.self.inside in
    sound_read_room (monitor_state old.limits old.writes.items old.reads.items) c.args.self.now c.args.beat.now old.writes.room old.reads.room c.self.invariant c.self.view_is
    (sym c.ar_fault.ensures ∙ c.in_default.is)

pub invariant_of-self : goal.invariant_of-self
invariant_of-self g c =
    let old = c.self.inside in
    let reads = c.add.new.self in
    sound-open_after (monitor_state old.limits old.writes.items old.reads.items) c.args.self.now (OnAr c.args.beat.now) old.writes.items reads.items old.writes.room old.reads.room
    old.writes.room reads.room c.self.invariant c.self.view_is (sym c.ar_fault.ensures ∙ c.in_default.is) refl c.add.ensures.items (omega arith) (omega (arith, c.add.ensures.room))

pub returns-clause-order : goal.returns-clause-order
returns-clause-order g c =
    λ ok id.
    let now = c.args.self.now in
    let ar = c.args.beat.now in
    let after : c.add.new.self.items ≡ (open_after now.open_bursts (OnAr ar)).reads = c.add.ensures.items ∙ ap (λ (m : MonitorState). (open_after m.open_bursts (OnAr ar)).reads) c.self.view_is in
    ap (reads_owe id) after ∙ reads_owe-append id now.open_bursts.reads (record { ar = ar; came = 0 })
