-- No write of the ID is open.
use Rattle.std.proofs.Common.{arith, ℕ, ◌*◌, ap, sym, subst, ◌∙◌, rules}
use Rattle.std.specs.Prelude.{position}
use Rattle.subordinate.specs.Bursts.{is_in}
use Rattle.subordinate.specs.Device.{DeviceState}
use Rattle.subordinate.specs.Order.{AnswersOldestWrite}
use Rattle.subordinate.proofs.OrderLaws.{answers_oldest_write}
use Rattle.axi_beats.specs.Responses.{is_exokay}
use Rattle.subordinate.proofs.FaultLaws.{write_plain}
use Rattle.subordinate.specs.Faults.{standing_at}
use Rattle.subordinate.specs.FreeMemory.{is_write_of, open_bursts_of}
use Rattle.subordinate.proofs.Monitors.{outstanding_after_b, takes_b}
use Rattle.subordinate.proofs.OpenBursts.{found_none}
use Rattle.subordinate.proofs.OpenQueues.{queue_known, write_place}
use Rattle.subordinate.proofs.device.Device.answer_b.Goals as goal

pub close-requires-clause-queue : goal.close-requires-clause-queue
close-requires-clause-queue c =
    let place = sym c.oldest_write.ensures.place ∙ c.in_ok-place.was in
    let bursts = c.args.self.now.memory.pending in
    omega (arith, c.from.ensures, queue_known bursts (2 * c.args.id) c.in_ok-place.place c.oldest_write.ensures.laws.few.known (write_place c.args.id bursts ∙ place))

pub close-requires-clause-oldest : goal.close-requires-clause-oldest
close-requires-clause-oldest c =
    let place = sym c.oldest_write.ensures.place ∙ c.in_ok-place.was in
    let bursts = c.args.self.now.memory.pending in
    ap (λ (id : ℕ). position (is_in (2 * id)) bursts) c.from.ensures ∙ write_place c.args.id bursts ∙ place

pub returns-in_err-place-clause-answer : goal.returns-in_err-place-clause-answer
returns-in_err-place-clause-answer c =
    rw (found_none (is_write_of c.args.id) c.args.self.now.memory.pending (sym c.oldest_write.ensures.place ∙ c.in_err-place.was)) c.from_residual.ensures

pub returns-clause-order : goal.returns-clause-order
returns-clause-order c = λ answered.
    let place = sym c.oldest_write.ensures.place ∙ c.in_ok-place.was in
    subst (λ (device : DeviceState). AnswersOldestWrite c.args.id c.args.self.now.memory.pending device.memory.pending) (sym (c.close.ensures.state (is_write_of c.args.id) place))
    (answers_oldest_write c.args.id c.args.self.now.memory.pending c.open_at.result.now (c.open_at.ensures.found (is_write_of c.args.id) place))

pub returns-clause-monitor : goal.returns-clause-monitor
returns-clause-monitor c =
    let place = sym c.oldest_write.ensures.place ∙ c.in_ok-place.was in
    ap (λ (device : DeviceState). open_bursts_of device.memory) (c.close.ensures.state (is_write_of c.args.id) place)
    ∙ sym (outstanding_after_b c.args.self.now.memory (record { id = c.args.id; resp = c.write_response-resp.result }))

pub returns-clause-takes : goal.returns-clause-takes
returns-clause-takes c =
    let place = sym c.oldest_write.ensures.place ∙ c.in_ok-place.was in
    takes_b c.args.self.now.memory c.args.id c.write_response-resp.result c.open_at.result.now c.oldest_write.ensures.laws (c.open_at.ensures.found (is_write_of c.args.id) place)
    (ap is_exokay c.write_response-resp.ensures.value ∙ write_plain (standing_at c.self.inside.pages.faults c.start.result))

pub returns-clause-answer : goal.returns-clause-answer
returns-clause-answer c = search rules
