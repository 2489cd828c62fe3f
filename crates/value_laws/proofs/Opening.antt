-- How a byte is kept along at first, where a tester says what the memory begins with, with a reset, and with what is no event of it.
use Rattle.std.proofs.Common.{◌≡◌, ℕ, ◌-◌, ◌/◌, Bool, true, false, List, [], ◌∷◌, ◌++◌, length, Option, Some, None, if◌then◌else◌, refl, sym, ◌∙◌, ap, subst, arith}
use Rattle.std.specs.Prelude.{slice_index}
use Rattle.byte_orders.specs.Holdings.{beginning as first_holding}
use Rattle.byte_orders.specs.Runs.{Event, NoneBefore, Resets}
use Rattle.score_setup.specs.ScoreSetups.{RangeLists}
use Rattle.sparse_memory.specs.Ranges.{is_unknown}
use Rattle.serial_memory.specs.SerialMemory.{is_filled}
use Rattle.scoreboard.specs.Boards.{Beginning, beginning_of}
use Rattle.scoreboard.specs.Filling.{filled_beginning}
use Rattle.scoreboard.specs.declared.Errors.{Errors}
use Rattle.value_memory.specs.ByteEvents.{ByteState, Goes}
use Rattle.value_memory.specs.ValueMemory.{KeepsCounts, ValueState, byte_in, held_in}
use Rattle.value_orders.specs.Bytes.{accesses_in, byte_at_start}
use Rattle.value_orders.specs.Histories.{Happening, Reset, history_in}
use Rattle.value_laws.specs.Kept.{AllArePast, HasRun, IsPastAt, Work, work_after, work_in}
use Rattle.value_laws.proofs.Buts.{but_same}
use Rattle.value_laws.proofs.Keeps.{events_next, past_goes, past_next, same_kept}

-- ---- at first

-- what is held is what the byte was at the start
pub opening_past : (errors : Errors) (beginning : Beginning) (x : ℕ) (state : ByteState) → state.now ≡ 0 → state.held ≡ first_holding (byte_at_start beginning x) ∷ []
    → IsPastAt errors beginning [] x state
opening_past errors beginning x state now held =
    record { events = []; may_come = tt; done = refl; held = record { held = sym held; now = sym now; oldest = omega arith } }

-- each byte of a memory that was just made, by a set-up
pub new_past : (errors : Errors) (setup : RangeLists) (memory : ValueState)
    → ((x : ℕ) → held_in memory x ≡ first_holding (if is_unknown setup.ranges (x / 4096) then None else Some 0) ∷ []) → memory.begun ≡ 0
    → AllArePast errors (beginning_of setup) [] memory
new_past errors setup memory held none x = opening_past errors (beginning_of setup) x (byte_in memory x) none (held x)

-- none has begun then
none_begun : (errors : Errors) (beginning : Beginning) (x : ℕ) (state : ByteState) → IsPastAt errors beginning [] x state → state.now ≡ 0
none_begun errors beginning x state past = sym past.held.now ∙ ap (λ (w : Work). w.now) past.done

-- ---- a tester says what it begins with

module _ (errors : Errors) (beginning : Beginning) (address : ℕ) (bytes : List ℕ) where
  abbrev filled : Beginning
  filled = filled_beginning beginning address bytes

  -- one of those bytes, and another one
  start_there : (x : ℕ) → is_filled address (length bytes) x ≡ true → byte_at_start filled x ≡ Some (slice_index bytes (x - address))
  start_there x is = rw is refl

  start_elsewhere : (x : ℕ) → is_filled address (length bytes) x ≡ false → byte_at_start filled x ≡ byte_at_start beginning x
  start_elsewhere x is = rw is refl

  pub filled_past : (old new : ValueState)
      → ((x : ℕ) → held_in new x ≡ (if is_filled address (length bytes) x then first_holding (Some (slice_index bytes (x - address))) ∷ [] else held_in old x))
      → KeepsCounts old new → AllArePast errors beginning [] old → AllArePast errors filled [] new
  filled_past old new held counts past x = by_test (is_filled address (length bytes) x) refl
    where
      none : new.begun ≡ 0
      none = counts.begun ∙ none_begun errors beginning x (byte_in old x) (past x)

      as_held : (b : Bool) → is_filled address (length bytes) x ≡ b
          → held_in new x ≡ (if b then first_holding (Some (slice_index bytes (x - address))) ∷ [] else held_in old x)
      as_held b is = held x ∙ ap (λ (t : Bool). if t then first_holding (Some (slice_index bytes (x - address))) ∷ [] else held_in old x) is

      by_test : (b : Bool) → is_filled address (length bytes) x ≡ b → IsPastAt errors filled [] x (byte_in new x)
      by_test true is =
          opening_past errors filled x (byte_in new x) none
          (as_held true is ∙ ap (λ (o : Option ℕ). first_holding o ∷ []) (sym (start_there x is)))
      by_test false is =
          subst (λ (o : Option ℕ). HasRun o (work_in errors filled [] x) (byte_in new x)) (sym (start_elsewhere x is))
          (same_kept (byte_at_start beginning x) (work_in errors beginning [] x) (byte_in old x) (byte_in new x) (past x) (as_held false is) counts.begun
          (let same = counts.oldest in omega (arith, same)))

-- ---- what is no event of a byte

module _ (errors : Errors) (beginning : Beginning) (happenings : List Happening) where
  -- only pages have got room
  pub same_past : (old new : ValueState) → ((x : ℕ) → held_in new x ≡ held_in old x) → KeepsCounts old new → AllArePast errors beginning happenings old
      → AllArePast errors beginning happenings new
  same_past old new held counts past x =
      same_kept (byte_at_start beginning x) (work_in errors beginning happenings x) (byte_in old x) (byte_in new x) (past x) (held x) counts.begun
      (let same = counts.oldest in omega (arith, same))

  -- what happens does nothing to a byte
  pub nothing_past : (happening : Happening) (x : ℕ) (state : ByteState) → events_next errors beginning happenings happening x ≡ []
      → IsPastAt errors beginning happenings x state → IsPastAt errors beginning (happenings ++ happening ∷ []) x state
  nothing_past happening x state none past =
      past_next errors beginning happenings happening x state
      (subst (λ (es : List Event). HasRun (byte_at_start beginning x) (work_after (work_in errors beginning happenings x) es) state) (sym none) past)

  -- ---- a reset

  pub reset_past : (x oldest : ℕ) (old new : ByteState) → IsPastAt errors beginning happenings x old → Goes oldest false old new (Resets ∷ [])
      → NoneBefore oldest (accesses_in beginning.lists errors (history_in errors beginning happenings) x)
      → IsPastAt errors beginning (happenings ++ Reset ∷ []) x new
  reset_past x oldest old new past goes none =
      past_goes errors beginning happenings Reset x oldest false old new (Resets ∷ []) past goes none
      (but_same (work_in errors beginning happenings x) (Resets ∷ []))
