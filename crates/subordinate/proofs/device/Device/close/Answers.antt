-- The box and the beats of the burst that closed go to those that wait to be taken back, or to be used again.
use Rattle.std.proofs.Common.{◌≡◌, ◌<◌, ◌+◌, List, length, arith, refl, sym, ap, subst, ◌∙◌}
use Rattle.std.proofs.lemmas.List.Edits.{length-remove}
use Rattle.std.specs.Prelude.{Some, IsSome, position}
use Rattle.std.specs.List.{AllByRecursion}
use Rattle.std.specs.Vec.{vec_len}
use Rattle.bus_words.proofs.FirstPlaces.{position_is_first}
use Rattle.bus_words.proofs.PlaceChanges.{all-append}
use Rattle.subordinate.specs.Bursts.{is_in}
use Rattle.subordinate.specs.Device.{DeviceState}
use Rattle.subordinate.specs.FreeMemory.{Pending}
use Rattle.subordinate.specs.Inside.{after_closing, memory_of}
use Rattle.subordinate.specs.Laws.{IsSoundMemory}
use Rattle.subordinate.proofs.OpenQueues.{at_place}
use Rattle.subordinate.proofs.SoundDevices.{closing, room-close, sound-remove}
use Rattle.subordinate.proofs.device.Device.close.Goals as goal

pub take_oldest-requires-clause-rising : goal.take_oldest-requires-clause-rising
take_oldest-requires-clause-rising c = (c.self.inside.sent, c.self.invariant.0.rising)

pub take_oldest-requires-clause-oldest : goal.take_oldest-requires-clause-oldest
take_oldest-requires-clause-oldest c = subst (λ (device : DeviceState). position (is_in c.args.queue) device.memory.pending ≡ Some c.args.place) (sym c.self.view_is) c.requires.oldest

within : (c : goal.After-push_reserved-2) → c.args.place < length c.self.inside.«open»
within c =
    (position_is_first (is_in c.args.queue) c.self.inside.«open» c.args.place (subst (λ (device : DeviceState). position (is_in c.args.queue) device.memory.pending ≡ Some c.args.place) (sym c.self.view_is) c.requires.oldest)).within

sound : (c : goal.After-push_reserved-2) → IsSoundMemory (memory_of c.self.inside.bus_bytes c.self.inside.pages c.take_oldest.new.self c.self.inside.sent)
sound c =
    let inside = c.self.inside in
    rw c.take_oldest.ensures.rest (sound-remove (memory_of inside.bus_bytes inside.pages inside.«open» inside.sent) c.args.place c.self.invariant.0 (within c))

pub returns-clause-laws : goal.returns-clause-laws
returns-clause-laws c = sound c

pub invariant_of-self : goal.invariant_of-self
invariant_of-self c =
    let inside = c.self.inside in
    let closed : AllByRecursion IsSome c.push_reserved-2.new.self.items =
    rw (c.push_reserved-2.ensures.items, c.into_parts-burst.ensures) (all-append IsSome inside.closed.items (Some c.take_oldest.result.burst) c.self.invariant.2 refl)
    in
    let one_less : length c.take_oldest.new.self + 1 ≡ length inside.«open» =
    omega (arith, ap (λ (bursts : List Pending). length bursts) c.take_oldest.ensures.rest, length-remove inside.«open» c.args.place (within c), within c)
    in (
      sound c,
      room-close (length inside.«open») (vec_len inside.closed) (vec_len inside.spare) (length c.take_oldest.new.self) (vec_len c.push_reserved-2.new.self) (vec_len c.push_reserved.new.self) _ _ _ _ c.self.invariant.1 one_less c.push_reserved-2.ensures.len
          c.push_reserved.ensures.len (omega (arith, c.push_reserved-2.ensures.capacity)) (omega (arith, c.push_reserved.ensures.capacity)),
      closed,
    )

pub returns-clause-state : goal.returns-clause-state
returns-clause-state c = λ test place.
    let inside = c.self.inside in
    let first : position test inside.«open» ≡ Some c.args.place = subst (λ (device : DeviceState). position test device.memory.pending ≡ Some c.args.place) (sym c.self.view_is) place in
    rw (c.take_oldest.ensures.rest, c.push_reserved-2.ensures.items)
    (closing inside.bus_bytes inside.pages inside.«open» inside.sent inside.closed.items test c.args.place c.take_oldest.result c.into_parts-burst.result.0 first
    (at_place inside.«open» c.args.place c.take_oldest.result (within c) c.take_oldest.ensures.burst) c.into_parts-burst.ensures
    ∙ ap (after_closing test) c.self.view_is)
