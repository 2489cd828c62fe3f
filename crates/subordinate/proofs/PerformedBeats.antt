-- Which beat was performed, where the memory says that one was.
use Rattle.std.proofs.Common.{◌≡◌, ℕ, refl, ap, sym}
use Rattle.std.specs.Prelude.{Option, Some, None, find}
use Rattle.subordinate.specs.FreeMemory.{FreeMemory, Pending, beat_at, has_serial, performed, performed_beat, performed_in, with_performed}
use Rattle.subordinate.specs.declared.BeatState.{BeatState}
use Rattle.subordinate.specs.declared.BeatState.TheVariants.{Captured, Waiting, Written}
use Rattle.subordinate.specs.declared.Performed.{Performed}
use Rattle.subordinate.specs.declared.Performed.TheVariants as perform

-- from a state to the next by performing a beat of an open burst that isn't performed
pub record Performs (old : FreeMemory) (serial beat : ℕ) (new : FreeMemory) : Type 0 where
  pub pending : Pending
  pub is_open : find (has_serial serial) old.pending ≡ Some pending
  pub waits : beat_at pending beat ≡ Some Waiting
  pub becomes : new ≡ with_performed old pending beat

pub performs_done : (state : FreeMemory) (serial beat : ℕ) (memory : FreeMemory) → performed state serial beat ≡ (memory, perform.Done) → Performs state serial beat memory
performs_done state serial beat memory is = by_found (find (has_serial serial) state.pending) refl is
  where
    never : (answer : Performed) → (answer ≡ perform.Done → ⊥) → ◌≡◌ {A = FreeMemory × Performed} (state, answer) (memory, perform.Done) → Performs state serial beat memory
    never answer other same = absurd (other (ap (λ (result : FreeMemory × Performed). result.1) same))

    by_state : (pending : Pending) → find (has_serial serial) state.pending ≡ Some pending → (there : Option BeatState) → beat_at pending beat ≡ there
        → performed_beat state pending beat there ≡ (memory, perform.Done) → Performs state serial beat memory
    by_state pending found None at same = never perform.NoSuch (λ other. cc) same
    by_state pending found (Some Waiting) at same =
        record { pending = pending; is_open = found; waits = at; becomes = sym (ap (λ (result : FreeMemory × Performed). result.0) same) }
    by_state pending found (Some Written) at same = never perform.Already (λ other. cc) same
    by_state pending found (Some (Captured payload resp)) at same = never perform.Already (λ other. cc) same

    by_found : (found : Option Pending) → find (has_serial serial) state.pending ≡ found → performed_in state beat found ≡ (memory, perform.Done) → Performs state serial beat memory
    by_found None none same = never perform.NoSuch (λ other. cc) same
    by_found (Some pending) found same = by_state pending found (beat_at pending beat) refl same
