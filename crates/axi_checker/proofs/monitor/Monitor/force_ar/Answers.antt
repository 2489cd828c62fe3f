-- It has room for the burst, and stays within its limits.
use Rattle.std.proofs.Common.{◌≡◌, true, ap₂, arith, refl, sym, ◌∙◌}
use Rattle.axi_checker.specs.Forced.{may_open}
use Rattle.axi_checker.specs.Monitors.{id_of_read, monitor_state}
use Rattle.axi_checker.specs.OpenBursts.{open_after}
use Rattle.axi_checker.specs.declared.AxiBeat.TheVariants.{Ar as OnAr}
use Rattle.axi_checker.specs.Rules.{address_of_read}
use Rattle.axi_checker.proofs.Few.{of_id}
use Rattle.axi_checker.proofs.Forcing.{read_room, read_within}
use Rattle.axi_checker.proofs.SoundMonitors.{kept_sound}
use Rattle.axi_checker.proofs.monitor.Monitor.force_ar.Goals as goal

pub add-requires : goal.add-requires
add-requires g c =
    let old = c.self.inside in
    let opens : may_open old.limits (address_of_read c.args.beat.now) (of_id id_of_read c.args.beat.now.id old.reads.items) ≡ true =
    ap₂ (may_open old.limits) (sym c.of_read-address.ensures) (sym c.of_id.ensures) ∙ sym c.may_open.ensures ∙ c.if-may_open.true in
    read_room (monitor_state old.limits old.writes.items old.reads.items) old.writes.room old.reads.room c.self.invariant c.args.beat.now opens

pub invariant_of-self : goal.invariant_of-self
invariant_of-self g c =
    let old = c.self.inside in
    let reads = c.add.new.self in
    let opens : may_open old.limits (address_of_read c.args.beat.now) (of_id id_of_read c.args.beat.now.id old.reads.items) ≡ true =
    ap₂ (may_open old.limits) (sym c.of_read-address.ensures) (sym c.of_id.ensures) ∙ sym c.may_open.ensures ∙ c.if-may_open.true in
    let state = monitor_state old.limits old.writes.items old.reads.items in
    kept_sound state (open_after state.open_bursts (OnAr c.args.beat.now)) old.writes.items reads.items old.writes.room old.reads.room
    old.writes.room reads.room c.self.invariant (read_within state old.writes.room old.reads.room c.self.invariant c.args.beat.now opens)
    refl c.add.ensures.items (omega arith) (omega (arith, c.add.ensures.room))
