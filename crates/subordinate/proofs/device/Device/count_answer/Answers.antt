-- One more R beat of the read at the place came.
use Rattle.std.proofs.Common.{◌≡◌, ◌*◌, ◌+◌, ◌<◌, List, length, sym, ap, arith, subst, ◌∙◌}
use Rattle.std.proofs.lemmas.List.{length-set}
use Rattle.std.specs.Prelude.{Some, IfSome, IsSome, position, slice_get, slice_set}
use Rattle.subordinate.specs.Device.{DeviceState}
use Rattle.subordinate.specs.FreeMemory.{Pending, beat_at}
use Rattle.subordinate.specs.Inside.{after_counting, captured_at, device_state, memory_of, with_answer}
use Rattle.subordinate.specs.Laws.{IsSoundMemory}
use Rattle.subordinate.proofs.BurstIndex.{burst_at}
use Rattle.subordinate.proofs.OpenQueues.{at_place, kept_place, queue_known, some_at, whole_at}
use Rattle.subordinate.proofs.SoundDevices.{counting, room_changed, sound-answered}
use Rattle.subordinate.proofs.device.Device.count_answer.Goals as goal

abbrev pending_of : DeviceState → List Pending
pending_of device = device.memory.pending

pub count_answer-requires-clause-rising : goal.count_answer-requires-clause-rising
count_answer-requires-clause-rising c = (c.self.inside.sent, c.self.invariant.0.rising)

pub count_answer-requires-clause-id : goal.count_answer-requires-clause-id
count_answer-requires-clause-id c =
    let kept = kept_place (2 * c.args.id + 1) c.self.inside.«open» c.args.self.now.memory.pending c.args.place (ap pending_of c.self.view_is) c.requires.oldest in
    omega (arith, queue_known c.self.inside.«open» (2 * c.args.id + 1) c.args.place c.self.invariant.0.few.known kept.0)

pub count_answer-requires-clause-whole : goal.count_answer-requires-clause-whole
count_answer-requires-clause-whole c =
    let kept = kept_place (2 * c.args.id + 1) c.self.inside.«open» c.args.self.now.memory.pending c.args.place (ap pending_of c.self.view_is) c.requires.oldest in
    whole_at c.self.inside.bus_bytes c.self.inside.«open» c.args.place kept.1 c.self.invariant.0.each

-- the place is one of them, and what is there after the count
within : (c : goal.After-count_answer) → c.args.place < length c.self.inside.«open»
within c = (kept_place (2 * c.args.id + 1) c.self.inside.«open» c.args.self.now.memory.pending c.args.place (ap pending_of c.self.view_is) c.requires.oldest).1

becomes : (c : goal.After-count_answer) → c.count_answer.new.self ≡ slice_set c.self.inside.«open» c.args.place (with_answer (burst_at c.self.inside.«open» c.args.place))
becomes c = c.count_answer.ensures (burst_at c.self.inside.«open» c.args.place) (some_at c.self.inside.«open» c.args.place (within c))

sound : (c : goal.After-count_answer) → IsSoundMemory (memory_of c.self.inside.bus_bytes c.self.inside.pages c.count_answer.new.self c.self.inside.sent)
sound c =
    let inside = c.self.inside in
    let captured : IfSome (slice_get inside.«open» c.args.place) (λ q. IsSome (captured_at (beat_at q q.answered))) =
    subst (λ (device : DeviceState). IfSome (slice_get device.memory.pending c.args.place) (λ q. IsSome (captured_at (beat_at q q.answered)))) (sym c.self.view_is) c.requires.captured
    in
    subst (λ (bursts : List Pending). IsSoundMemory (memory_of inside.bus_bytes inside.pages bursts inside.sent)) (sym (becomes c))
    (sound-answered (memory_of inside.bus_bytes inside.pages inside.«open» inside.sent) c.args.place (burst_at inside.«open» c.args.place) c.self.invariant.0 (within c)
    (at_place inside.«open» c.args.place (burst_at inside.«open» c.args.place) (within c) (some_at inside.«open» c.args.place (within c))) captured)

pub returns-clause-laws : goal.returns-clause-laws
returns-clause-laws c = sound c

pub invariant_of-self : goal.invariant_of-self
invariant_of-self c = (sound c, room_changed _ _ _ _ _ (ap (λ (bursts : List Pending). length bursts) (becomes c) ∙ length-set c.self.inside.«open» c.args.place _) c.self.invariant.1, c.self.invariant.2)

pub returns-clause-state : goal.returns-clause-state
returns-clause-state c = λ test place.
    let inside = c.self.inside in
    let first : position test inside.«open» ≡ Some c.args.place = subst (λ (device : DeviceState). position test device.memory.pending ≡ Some c.args.place) (sym c.self.view_is) place in
    ap (λ (bursts : List Pending). device_state inside.bus_bytes inside.pages bursts inside.sent inside.closed.items) (becomes c)
    ∙ counting inside.bus_bytes inside.pages inside.«open» inside.sent inside.closed.items test c.args.place (burst_at inside.«open» c.args.place) first
    (at_place inside.«open» c.args.place (burst_at inside.«open» c.args.place) (within c) (some_at inside.«open» c.args.place (within c)))
    ∙ ap (after_counting test) c.self.view_is
