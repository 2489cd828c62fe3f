-- It has room for the burst, and stays within its limits.
use Rattle.std.proofs.Common.{◌≡◌, true, ap₂, arith, refl, sym, ◌∙◌}
use Rattle.axi_checker.specs.Forced.{may_open}
use Rattle.axi_checker.specs.Monitors.{id_of_write, monitor_state}
use Rattle.axi_checker.specs.OpenBursts.{open_after}
use Rattle.axi_checker.specs.declared.AxiBeat.TheVariants.{Aw as OnAw}
use Rattle.axi_checker.specs.Rules.{address_of_write}
use Rattle.axi_checker.proofs.Few.{of_id}
use Rattle.axi_checker.proofs.Forcing.{write_room, write_within}
use Rattle.axi_checker.proofs.SoundMonitors.{kept_sound}
use Rattle.axi_checker.proofs.monitor.Monitor.force_aw.Goals as goal

pub add-requires : goal.add-requires
add-requires g c =
    let old = c.self.inside in
    let opens : may_open old.limits (address_of_write c.args.beat.now) (of_id id_of_write c.args.beat.now.id old.writes.items) ≡ true =
    ap₂ (may_open old.limits) (sym c.of_write-address.ensures) (sym c.of_id.ensures) ∙ sym c.may_open.ensures ∙ c.if-may_open.true in
    write_room (monitor_state old.limits old.writes.items old.reads.items) old.writes.room old.reads.room c.self.invariant c.args.beat.now opens

pub invariant_of-self : goal.invariant_of-self
invariant_of-self g c =
    let old = c.self.inside in
    let writes = c.add.new.self in
    let opens : may_open old.limits (address_of_write c.args.beat.now) (of_id id_of_write c.args.beat.now.id old.writes.items) ≡ true =
    ap₂ (may_open old.limits) (sym c.of_write-address.ensures) (sym c.of_id.ensures) ∙ sym c.may_open.ensures ∙ c.if-may_open.true in
    let state = monitor_state old.limits old.writes.items old.reads.items in
    kept_sound state (open_after state.open_bursts (OnAw c.args.beat.now)) writes.items old.reads.items old.writes.room old.reads.room
    writes.room old.reads.room c.self.invariant (write_within state old.writes.room old.reads.room c.self.invariant c.args.beat.now opens)
    c.add.ensures.items refl (omega (arith, c.add.ensures.room)) (omega arith)
