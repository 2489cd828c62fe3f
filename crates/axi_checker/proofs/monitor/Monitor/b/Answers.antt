use Rattle.std.proofs.Common.{◌≡◌, ◌+◌, List, length, refl, ap, ◌∙◌, arith}
use Rattle.std.specs.Prelude.{filter, find}
use Rattle.bus_words.specs.Places.{without_first}
use Rattle.axi_checker.specs.Monitors.{MonitorState, monitor_state}
use Rattle.axi_checker.specs.OpenBursts.{OpenWrite, lacks_data, write_of_id}
use Rattle.axi_checker.specs.declared.AxiBeat.TheVariants.{B as OnB}
use Rattle.axi_checker.specs.Order.{writes_lack}
use Rattle.axi_checker.proofs.InOrder.{finds_response}
use Rattle.axi_checker.proofs.Lasts.{writes_left, writes_lack-without_first}
use Rattle.axi_checker.proofs.SoundMonitors.{sound-open_after}
use Rattle.axi_checker.proofs.Taking.{filled_after_b}
use Rattle.axi_checker.proofs.monitor.Monitor.b.Goals as goal

pub invariant_of-self : goal.invariant_of-self
invariant_of-self g c =
    let old = c.self.inside in
    let writes = c.close.new.self in
    sound-open_after (monitor_state old.limits old.writes.items old.reads.items) c.args.self.now (OnB c.args.beat.now) writes.items old.reads.items old.writes.room old.reads.room
    writes.room old.reads.room c.self.invariant c.self.view_is c.in_ok-place.ensures.0 c.close.ensures.items refl (omega (arith, c.close.ensures.room)) (omega arith)

pub returns-clause-one_less : goal.returns-clause-one_less
returns-clause-one_less g c =
    λ ok.
    let now = c.args.self.now in
    let id = c.args.beat.now.id in
    let after : c.close.new.self.items ≡ without_first (write_of_id id) now.open_bursts.writes =
    c.close.ensures.items ∙ ap (λ (m : MonitorState). without_first (write_of_id id) m.open_bursts.writes) c.self.view_is in
    let finds = finds_response now.port now.open_bursts c.args.beat.now c.in_ok-place.ensures.0 in
    ap (λ (writes : List OpenWrite). 1 + length (filter (write_of_id id) writes)) after ∙ writes_left id now.open_bursts.writes finds.write finds.found

pub returns-clause-complete : goal.returns-clause-complete
returns-clause-complete g c =
    λ ok.
    let now = c.args.self.now in
    let id = c.args.beat.now.id in
    let after : c.close.new.self.items ≡ without_first (write_of_id id) now.open_bursts.writes =
    c.close.ensures.items ∙ ap (λ (m : MonitorState). without_first (write_of_id id) m.open_bursts.writes) c.self.view_is in
    let finds = finds_response now.port now.open_bursts c.args.beat.now c.in_ok-place.ensures.0 in
    ap writes_lack after ∙ writes_lack-without_first (write_of_id id) now.open_bursts.writes finds.write finds.found finds.full

pub returns-clause-data : goal.returns-clause-data
returns-clause-data g c =
    λ ok ready.
    let now = c.args.self.now in
    let id = c.args.beat.now.id in
    let after : c.close.new.self.items ≡ without_first (write_of_id id) now.open_bursts.writes =
    c.close.ensures.items ∙ ap (λ (m : MonitorState). without_first (write_of_id id) m.open_bursts.writes) c.self.view_is in
    ap (find lacks_data) after ∙ filled_after_b id now.open_bursts.writes ready
