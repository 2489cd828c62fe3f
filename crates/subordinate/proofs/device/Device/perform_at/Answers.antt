-- The beat of the burst at the place is what became of it.
use Rattle.std.proofs.Common.{◌≡◌, ◌<◌, List, length, sym, ap, subst, ◌∙◌, arith}
use Rattle.std.proofs.lemmas.Grind.{elements}
use Rattle.std.proofs.lemmas.List.{length-set}
use Rattle.std.specs.Prelude.{Some, IfSome, position, slice_get, slice_set}
use Rattle.subordinate.specs.Device.{DeviceState}
use Rattle.subordinate.specs.FreeMemory.{Pending, beat_at, with_beat}
use Rattle.subordinate.specs.Inside.{after_performing, device_state, memory_of, memory_over}
use Rattle.subordinate.specs.Laws.{IsSoundMemory}
use Rattle.subordinate.specs.declared.BeatState.TheVariants.{Waiting}
use Rattle.subordinate.proofs.OpenQueues.{at_place, known_at}
use Rattle.subordinate.proofs.SoundDevices.{beat_becomes-performed, performing, room_changed, sound-performed}
use Rattle.subordinate.proofs.device.Device.perform_at.Goals as goal

pub put-requires-clause-rising : goal.put-requires-clause-rising
put-requires-clause-rising c = (c.self.inside.sent, c.self.invariant.0.rising)

pub put-requires-clause-waits : goal.put-requires-clause-waits
put-requires-clause-waits c =
    subst (λ (device : DeviceState). IfSome (slice_get device.memory.pending c.args.place) (λ p. beat_at p c.args.beat ≡ Some Waiting)) (sym c.self.view_is) c.requires.waits

pub put-requires-clause-performed : goal.put-requires-clause-performed
put-requires-clause-performed c =
    let became = rw c.burst.ensures at c.carried_out-becomes.ensures.beat in
    beat_becomes-performed (memory_over c.self.inside.bus_bytes c.self.inside.pages) c.at.result.now.burst c.args.beat c.carried_out-becomes.result became

pub put-requires-clause-known : goal.put-requires-clause-known
put-requires-clause-known c = known_at c.self.inside.«open» c.args.place (subst (λ (device : DeviceState). c.args.place < length device.memory.pending) (sym c.self.view_is) c.requires.here) c.self.invariant.0.few.known

within : (c : goal.After-put) → c.args.place < length c.self.inside.«open»
within c = subst (λ (device : DeviceState). c.args.place < length device.memory.pending) (sym c.self.view_is) c.requires.here

becomes : (c : goal.After-put) → c.put.new.self ≡ slice_set c.self.inside.«open» c.args.place (with_beat c.args.beat c.carried_out-becomes.result c.at.result.now)
becomes c = c.put.ensures c.at.result.now c.at.ensures

sound : (c : goal.After-put) → IsSoundMemory (memory_of c.self.inside.bus_bytes c.carried_out-becomes.new.pages c.put.new.self c.self.inside.sent)
sound c =
    let inside = c.self.inside in
    let became = rw c.burst.ensures at c.carried_out-becomes.ensures.beat in
    let bytes = rw c.burst.ensures at c.carried_out-becomes.ensures.bytes in
    subst (λ (bursts : List Pending). IsSoundMemory (memory_of inside.bus_bytes c.carried_out-becomes.new.pages bursts inside.sent)) (sym (becomes c))
    (sound-performed (memory_of inside.bus_bytes inside.pages inside.«open» inside.sent) c.carried_out-becomes.new.pages c.args.place c.args.beat c.carried_out-becomes.result c.at.result.now c.self.invariant.0 (within c)
    (at_place inside.«open» c.args.place c.at.result.now (within c) c.at.ensures) became bytes)

pub returns-clause-laws : goal.returns-clause-laws
returns-clause-laws c = sound c

pub invariant_of-self : goal.invariant_of-self
invariant_of-self c = (
  sound c,
  room_changed _ _ _ _ _ (ap (λ (bursts : List Pending). length bursts) (becomes c) ∙ length-set c.self.inside.«open» c.args.place _) c.self.invariant.1,
  c.self.invariant.2,
)

pub returns-clause-state : goal.returns-clause-state
returns-clause-state c = λ test place.
    let inside = c.self.inside in
    let first : position test inside.«open» ≡ Some c.args.place = subst (λ (device : DeviceState). position test device.memory.pending ≡ Some c.args.place) (sym c.self.view_is) place in
    let became = rw c.burst.ensures at c.carried_out-becomes.ensures.beat in
    let bytes = rw c.burst.ensures at c.carried_out-becomes.ensures.bytes in
    ap (λ (bursts : List Pending). device_state inside.bus_bytes c.carried_out-becomes.new.pages bursts inside.sent inside.closed.items) (becomes c)
    ∙ performing inside.bus_bytes inside.pages c.carried_out-becomes.new.pages inside.«open» inside.sent inside.closed.items test c.args.place c.args.beat c.at.result.now c.carried_out-becomes.result first
    (at_place inside.«open» c.args.place c.at.result.now (within c) c.at.ensures) became bytes
    ∙ ap (after_performing test c.args.beat) c.self.view_is

pub carried_out-becomes-requires-clause-legal : goal.carried_out-becomes-requires-clause-legal
carried_out-becomes-requires-clause-legal c = grind (arith, elements) steps 2000000

pub carried_out-becomes-requires-clause-beat : goal.carried_out-becomes-requires-clause-beat
carried_out-becomes-requires-clause-beat c = grind (arith, elements) steps 2000000
