-- The oldest read of the ID is answered, if one is open.
use Rattle.std.proofs.Common.{arith, ◌*◌, ◌+◌, ◌≡◌, ap, sym, subst, ◌∙◌, refl}
use Rattle.std.specs.Prelude.{Some, None, find}
use Rattle.axi_beats.specs.declared.RBeat.{RBeat}
use Rattle.subordinate.specs.Device.{DeviceState}
use Rattle.subordinate.specs.Order.{AnswersNextBeat}
use Rattle.subordinate.proofs.OrderLaws.{answers_next_beat, captured_is}
use Rattle.std.proofs.lemmas.Option.{same_Some}
use Rattle.subordinate.specs.FreeMemory.{Pending, beat_at, gives_last, is_read_of, open_bursts_of, after_r_of, device_port, pending_after_r}
use Rattle.subordinate.proofs.Monitors.{known_after_r, takes_r}
use Rattle.subordinate.proofs.OpenBursts.{found_none}
use Rattle.subordinate.proofs.SoundDevices.{answering-last, answering-more}
use Rattle.subordinate.proofs.OpenQueues.{queue_known, read_place}
use Rattle.subordinate.proofs.device.Device.answer_r.Goals.{After-gives_last-last}
use Rattle.subordinate.proofs.device.Device.answer_r.Goals as goal
use Rattle.axi_checker.specs.OpenBursts.{open_after}
use Rattle.axi_checker.specs.declared.AxiBeat.TheVariants.{R as OnR}
use Rattle.axi_checker.specs.Rules.{axi_fault}
use Rattle.subordinate.specs.declared.BeatState.TheVariants.{Captured}

pub close-requires-clause-queue : goal.close-requires-clause-queue
close-requires-clause-queue c =
    let place = sym c.oldest_read.ensures.place ∙ c.in_ok-place.was in
    let bursts = c.args.self.now.memory.pending in
    omega (arith, c.from.ensures, queue_known bursts (2 * c.args.id + 1) c.in_ok-place.place c.oldest_read.ensures.laws.few.known (read_place c.args.id bursts ∙ place))

pub returns-in_err-place-clause-answer : goal.returns-in_err-place-clause-answer
returns-in_err-place-clause-answer c =
    rw (found_none (is_read_of c.args.id) c.args.self.now.memory.pending (sym c.oldest_read.ensures.place ∙ c.in_err-place.was)) c.from_residual.ensures

pub returns-then-last-clause-closed : goal.returns-then-last-clause-closed
returns-then-last-clause-closed c = λ answered.
    let place = sym c.oldest_read.ensures.place ∙ c.in_ok-place.was in
    c.close.ensures.state (is_read_of c.args.id) place
    ∙ answering-last c.args.self.now c.args.id c.open_at-2.result.now (c.open_at-2.ensures.found (is_read_of c.args.id) place) (sym c.gives_last-last.ensures ∙ c.if-last.true)

pub returns-else-last-clause-closed : goal.returns-else-last-clause-closed
returns-else-last-clause-closed c = λ answered.
    let place = sym c.oldest_read.ensures.place ∙ c.in_ok-place.was in
    c.count_answer.ensures.state (is_read_of c.args.id) place
    ∙ answering-more c.args.self.now c.args.id c.open_at-2.result.now (c.open_at-2.ensures.found (is_read_of c.args.id) place) (sym c.gives_last-last.ensures ∙ c.if-last.false)

-- the beat that is answered, and what came of it
abbrev beat_of : After-gives_last-last → RBeat
beat_of c = record { id = c.args.id; payload = c.in_ok-payload.payload; resp = c.in_ok-payload.resp; last = c.gives_last-last.result }

captures : (c : After-gives_last-last) → beat_at c.open_at.result.now c.open_at.result.now.answered ≡ Some (Captured c.in_ok-payload.payload c.in_ok-payload.resp)
captures c = captured_is (beat_at c.open_at.result.now c.open_at.result.now.answered) c.in_ok-payload.payload c.in_ok-payload.resp (sym c.captured.ensures ∙ c.in_ok-payload.was)

found : (c : After-gives_last-last) → find (is_read_of c.args.id) c.args.self.now.memory.pending ≡ Some c.open_at.result.now
found c = c.open_at.ensures.found (is_read_of c.args.id) (sym c.oldest_read.ensures.place ∙ c.in_ok-place.was)

order : (c : After-gives_last-last) → AnswersNextBeat c.args.id (beat_of c) c.args.self.now.memory.pending (pending_after_r c.args.id c.args.self.now.memory.pending)
order c =
    let memory = c.args.self.now.memory in
    answers_next_beat c.args.id memory.bus_bytes memory.sent memory.pending c.open_at.result.now (beat_of c) (found c) c.open_at.ensures.sound c.oldest_read.ensures.laws.rising (captures c)

monitor : (c : After-gives_last-last) → open_bursts_of (after_r_of c.args.self.now.memory c.args.id) ≡ open_after (open_bursts_of c.args.self.now.memory) (OnR (beat_of c))
monitor c = known_after_r c.args.self.now.memory.bus_bytes c.args.self.now.memory (beat_of c) c.open_at.result.now (found c) c.open_at.ensures.sound (captures c)

takes : (c : After-gives_last-last) → axi_fault (device_port c.args.self.now.memory) (open_bursts_of c.args.self.now.memory) (OnR (beat_of c)) ≡ None
takes c =
    let same = same_Some c.open_at-2.result.now c.open_at.result.now (sym (c.open_at-2.ensures.found (is_read_of c.args.id) (sym c.oldest_read.ensures.place ∙ c.in_ok-place.was)) ∙ found c) in
    takes_r c.args.self.now.memory c.args.id c.in_ok-payload.payload c.in_ok-payload.resp c.gives_last-last.result c.open_at.result.now c.oldest_read.ensures.laws (found c) (captures c)
    (c.gives_last-last.ensures ∙ ap (λ (read : Pending). gives_last read) same)

pub returns-then-last-clause-order : goal.returns-then-last-clause-order
returns-then-last-clause-order c =
    subst (λ (device : DeviceState). AnswersNextBeat c.args.id (beat_of (goal.at.returns-then-last-clause-order c).After-gives_last-last) c.args.self.now.memory.pending device.memory.pending) (sym (returns-then-last-clause-closed c refl)) (order (goal.at.returns-then-last-clause-order c).After-gives_last-last)

pub returns-then-last-clause-monitor : goal.returns-then-last-clause-monitor
returns-then-last-clause-monitor c = ap (λ (device : DeviceState). open_bursts_of device.memory) (returns-then-last-clause-closed c refl) ∙ monitor (goal.at.returns-then-last-clause-monitor c).After-gives_last-last

pub returns-then-last-clause-takes : goal.returns-then-last-clause-takes
returns-then-last-clause-takes c = takes (goal.at.returns-then-last-clause-takes c).After-gives_last-last

pub returns-else-last-clause-order : goal.returns-else-last-clause-order
returns-else-last-clause-order c =
    subst (λ (device : DeviceState). AnswersNextBeat c.args.id (beat_of (goal.at.returns-else-last-clause-order c).After-gives_last-last) c.args.self.now.memory.pending device.memory.pending) (sym (returns-else-last-clause-closed c refl)) (order (goal.at.returns-else-last-clause-order c).After-gives_last-last)

pub returns-else-last-clause-monitor : goal.returns-else-last-clause-monitor
returns-else-last-clause-monitor c = ap (λ (device : DeviceState). open_bursts_of device.memory) (returns-else-last-clause-closed c refl) ∙ monitor (goal.at.returns-else-last-clause-monitor c).After-gives_last-last

pub returns-else-last-clause-takes : goal.returns-else-last-clause-takes
returns-else-last-clause-takes c = takes (goal.at.returns-else-last-clause-takes c).After-gives_last-last
