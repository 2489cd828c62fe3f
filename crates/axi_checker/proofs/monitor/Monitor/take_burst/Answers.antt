-- A burst that breaks no rule finds room, keeps the limits, and lacks no data.
use Rattle.std.proofs.Common.{◌≡◌, List, refl, ap, ◌∙◌, arith}
use Rattle.axi_beats.specs.Boxes.{w_beats_of}
use Rattle.axi_beats.specs.Bursts.{ReadBurst, WriteBurst}
use Rattle.axi_checker.specs.Monitors.{MonitorState, monitor_state}
use Rattle.axi_checker.specs.OpenBursts.{OpenBursts, OpenWrite, write_to_fill}
use Rattle.axi_checker.specs.Rules.{open_with_burst}
use Rattle.axi_checker.proofs.SoundMonitors.{sound-open_with_burst, sound_read_room, sound_write_room}
use Rattle.axi_checker.proofs.Taking.{filled_with_burst, read_address, read_unbroken, write_address, write_taken, write_unbroken}
use Rattle.axi_checker.proofs.monitor.Monitor.take_burst.Goals as goal
use Rattle.axi_checker.proofs.monitor.Monitor.take_burst.Given.{Over}

pub add_whole-requires : goal.add_whole-requires
add_whole-requires g c =
    let old = c.self.inside in
    let now = c.args.self.now in
    let none = write_unbroken now.port now.open_bursts c.args.burst.now c.aw.result c.aw.ensures c.requires.unbroken in
    sound_write_room (monitor_state old.limits old.writes.items old.reads.items) now c.aw.result old.writes.room old.reads.room c.self.invariant c.self.view_is
    (write_address now.port now.open_bursts c.aw.result (w_beats_of c.args.burst.now) none)

pub add-requires : goal.add-requires
add-requires g c =
    let old = c.self.inside in
    let now = c.args.self.now in
    let none = read_unbroken now.port now.open_bursts c.args.burst.now c.ar.result c.ar.ensures c.requires.unbroken in
    sound_read_room (monitor_state old.limits old.writes.items old.reads.items) now c.ar.result old.writes.room old.reads.room c.self.invariant c.self.view_is
    (read_address now.port now.open_bursts c.ar.result none)

pub invariant_of-self : goal.invariant_of-self
invariant_of-self g c =
    let old = c.self.inside in
    let now = c.args.self.now in
    let writes = c.add_whole.new.self in
    let none = write_unbroken now.port now.open_bursts c.args.burst.now c.aw.result c.aw.ensures c.requires.unbroken in
    sound-open_with_burst (monitor_state old.limits old.writes.items old.reads.items) now (WriteBurst c.aw.result (w_beats_of c.args.burst.now)) writes.items old.reads.items
    old.writes.room old.reads.room writes.room old.reads.room c.self.invariant c.self.view_is c.requires.ready none
    c.add_whole.ensures.items refl (omega (arith, c.add_whole.ensures.room)) (omega arith)

pub invariant_of-self-else-is_write : goal.invariant_of-self-else-is_write
invariant_of-self-else-is_write g c =
    let old = c.self.inside in
    let now = c.args.self.now in
    let reads = c.add.new.self in
    let none = read_unbroken now.port now.open_bursts c.args.burst.now c.ar.result c.ar.ensures c.requires.unbroken in
    sound-open_with_burst (monitor_state old.limits old.writes.items old.reads.items) now (ReadBurst c.ar.result) old.writes.items reads.items
    old.writes.room old.reads.room old.writes.room reads.room c.self.invariant c.self.view_is c.requires.ready none
    refl c.add.ensures.items (omega arith) (omega (arith, c.add.ensures.room))

abbrev left : (g : Over) → goal.After-add_whole g → OpenBursts
left g c = record { writes = c.add_whole.new.self.items; reads = c.self.inside.reads.items }

taken : (g : Over) (c : goal.After-add_whole g) → left g c ≡ open_with_burst c.args.self.now.open_bursts (WriteBurst c.aw.result (w_beats_of c.args.burst.now))
taken g c =
    let reads = c.self.inside.reads.items in
    let after : List OpenWrite → OpenBursts = λ writes. record { writes = writes; reads = reads } in
    ap after c.add_whole.ensures.items
    ∙ ap (λ (m : MonitorState). open_with_burst m.open_bursts (WriteBurst c.aw.result (w_beats_of c.args.burst.now))) c.self.view_is

pub returns-then-is_write-clause-beats : goal.returns-then-is_write-clause-beats
returns-then-is_write-clause-beats g c =
    let now = c.args.self.now in
    write_taken now.port now.open_bursts (left g c) c.args.burst.now c.aw.result c.aw.ensures c.requires.ready c.requires.unbroken (taken g c)

pub returns-then-is_write-clause-ready : goal.returns-then-is_write-clause-ready
returns-then-is_write-clause-ready g c =
    ap write_to_fill (taken g c) ∙ filled_with_burst c.args.self.now.open_bursts (WriteBurst c.aw.result (w_beats_of c.args.burst.now)) c.requires.ready
