-- What performing a beat that waits does to a device.
use Rattle.std.proofs.Common.{◌≡◌, ℕ, Bool, refl, ap, subst, sym, ◌∙◌}
use Rattle.std.proofs.lemmas.Option.{get_or_from_slice_get, slice_get_within}
use Rattle.std.specs.Prelude.{Some, IfSome, find, position}
use Rattle.axi_beats.specs.Bursts.{IsLegal}
use Rattle.subordinate.specs.Bursts.{IsFirstWaiting}
use Rattle.subordinate.specs.Device.{DeviceState}
use Rattle.subordinate.specs.Effects.{HasEffectAt}
use Rattle.subordinate.specs.FreeMemory.{Pending, beat_at, has_serial, newly_pending, open_bursts_of, performed}
use Rattle.subordinate.specs.Inside.{after_performing, no_burst}
use Rattle.subordinate.specs.Laws.{IsSoundMemory, IsSoundPending}
use Rattle.subordinate.specs.Order.{OwesTheSame}
use Rattle.subordinate.specs.declared.BeatState.TheVariants.{Waiting}
use Rattle.subordinate.specs.declared.Performed.TheVariants.{Done}
use Rattle.subordinate.proofs.EffectLaws.{has_effect-performed}
use Rattle.subordinate.proofs.Monitors.{known_performed}
use Rattle.subordinate.proofs.OpenBursts.{all-placed, place_here}
use Rattle.subordinate.proofs.OpenQueues.{at_place, found_here}
use Rattle.subordinate.proofs.OrderLaws.{owes_performed}
use Rattle.subordinate.proofs.SoundDevices.{performing-serial}

-- what performing a beat of the open burst with a serial does to a device, where the beat waits
pub record PerformsWaiting (old new : DeviceState) (serial beat : ℕ) : Type 0 where
  pub state : new ≡ record old { memory = (performed old.memory serial beat).0 }
  pub done : (performed old.memory serial beat).1 ≡ Done
  pub effect : HasEffectAt serial beat old.memory new.memory
  pub order : OwesTheSame old.memory.pending new.memory.pending
  pub monitor : open_bursts_of new.memory ≡ open_bursts_of old.memory

pub performs_waiting : (old new : DeviceState) (serial beat : ℕ) (p : Pending) → IsSoundMemory old.memory → find (has_serial serial) old.memory.pending ≡ Some p → IsSoundPending old.memory.bus_bytes p → beat_at p beat ≡ Some Waiting
    → new ≡ after_performing (has_serial serial) beat old → PerformsWaiting old new serial beat
performs_waiting old new serial beat p laws found sound waits becomes =
    record {
      state = state;
      done = rw (found, waits) refl;
      effect = subst (HasEffectAt serial beat old.memory) (sym (ap (λ (device : DeviceState). device.memory) state)) (has_effect-performed old.memory serial beat laws.bus legal laws.pages (rw (found, waits) refl));
      order = subst (λ (device : DeviceState). OwesTheSame old.memory.pending device.memory.pending) (sym state) (owes_performed old.memory serial beat);
      monitor = ap (λ (device : DeviceState). open_bursts_of device.memory) state ∙ known_performed old.memory serial beat;
    }
  where
    state : new ≡ record old { memory = (performed old.memory serial beat).0 }
    state = becomes ∙ performing-serial old serial beat p found waits

    legal : IfSome (find (has_serial serial) old.memory.pending) (λ pending. IsLegal old.memory.bus_bytes pending.burst)
    legal = rw found sound.legal

-- the same of the first beat that waits, by the place of its burst
pub performs_first : (old new : DeviceState) (k beat : ℕ) (first : IsFirstWaiting old.memory.pending k beat) → IsSoundMemory old.memory
    → ((test : Pending → Bool) → position test old.memory.pending ≡ Some k → new ≡ after_performing test beat old) → PerformsWaiting old new first.pending.serial beat
performs_first old new k beat first laws becomes =
    let pending = old.memory.pending in
    let within = slice_get_within pending k first.pending first.there in
    let serial = ap (λ (p : Pending). p.serial) (get_or_from_slice_get pending k first.pending (newly_pending 0 no_burst) first.there) in
    let place = place_here 0 old.memory.sent pending first.pending.serial k laws.rising within serial in
    let sound = all-placed (IsSoundPending old.memory.bus_bytes) pending k first.pending laws.each within (at_place pending k first.pending within first.there) in
    performs_waiting old new first.pending.serial beat first.pending laws (found_here (has_serial first.pending.serial) pending k first.pending place first.there) sound first.waits (becomes (has_serial first.pending.serial) place)
