-- Two runs of a byte beside each other, which have the same list: one goes on by what a memory is told, the other by what happened. They stay so with each event
-- of both, with one that keeps lists short, and with one that leaves what is held as it is, on either side.
use Rattle.std.proofs.Common.{◌≡◌, ℕ, List, [], ◌∷◌, Option, refl, sym, ◌∙◌, ap, subst, arith}
use Rattle.std.specs.Prelude.{option_map}
use Rattle.byte_orders.specs.Accesses.{Access}
use Rattle.byte_orders.specs.Holdings.{Holding, crowd, holding_of, pruned_at, with_begun, with_ended, with_failed, with_reset, with_settled, with_sure, with_value, without}
use Rattle.byte_orders.specs.Runs.{Event, MayCome, Reads, Writes, Others, Tells, Gives, LeavesOut, TakesEffect, Fails, Ends, Resets, NoneOlderThan, Settles, Crowds, Run, giving, reading, run_next, writing}
use Rattle.byte_orders.proofs.QuietEvents.{IsOf, IsOpenIn, IsQuiet, accesses_next, may_next, now_next, oldest_next, quiet_after, same_held}
use Rattle.byte_orders.proofs.RunsRightly.{Holds, next_holds}
use Rattle.value_laws.proofs.Open.{AreOpenToo, EndsNone, all_cut, both_begin, both_end, first_changes, none_too, second_changes}

-- the second has the list of the first, and what hasn't ended of it hasn't of the first
pub record AreBeside (run other : Run) : Type 0 where
  pub held : other.held ≡ run.held
  pub now : other.now ≡ run.now
  pub oldest : other.oldest ≡ run.oldest
  pub live : AreOpenToo run.accesses other.accesses

-- ---- an event of both

-- what it makes of the list depends on that, and on how many have begun
abbrev held_next : ℕ → List Holding → Event → List Holding
held_next now held (Reads number) = held
held_next now held (Writes number) = with_begun number held
held_next now held (Others number) = held
held_next now held (Tells number byte) = held
held_next now held (Gives number value) = with_value number value held
held_next now held (LeavesOut number) = without number held
held_next now held (TakesEffect number) = with_sure number held
held_next now held (Fails number) = with_failed number held
held_next now held (Ends number) = with_ended number now held
held_next now held Resets = with_reset now held
held_next now held (NoneOlderThan number) = pruned_at number now held
held_next now held Settles = with_settled held
held_next now held Crowds = crowd now ∷ []

next_held : (run : Run) (event : Event) → (run_next run event).held ≡ held_next run.now run.held event
next_held run (Reads number) = refl
next_held run (Writes number) = refl
next_held run (Others number) = refl
next_held run (Tells number byte) = refl
next_held run (Gives number value) = refl
next_held run (LeavesOut number) = refl
next_held run (TakesEffect number) = refl
next_held run (Fails number) = refl
next_held run (Ends number) = refl
next_held run Resets = refl
next_held run (NoneOlderThan number) = refl
next_held run Settles = refl
next_held run Crowds = refl

-- alike on both
same_next : (run other : Run) (event : Event) → AreBeside run other → (run_next other event).held ≡ (run_next run event).held
same_next run other event beside =
    next_held other event ∙ ap (λ n. held_next n other.held event) beside.now ∙ ap (λ hs. held_next run.now hs event) beside.held ∙ sym (next_held run event)

-- how many have begun with it, and the oldest in flight
abbrev now_then : ℕ → Event → ℕ
now_then now (Reads number) = number
now_then now (Writes number) = number
now_then now (Others number) = number
now_then now event = now

abbrev oldest_then : ℕ → Event → ℕ
oldest_then oldest (NoneOlderThan number) = number
oldest_then oldest event = oldest

next_now : (run : Run) (event : Event) → (run_next run event).now ≡ now_then run.now event
next_now run (Reads number) = refl
next_now run (Writes number) = refl
next_now run (Others number) = refl
next_now run (Tells number byte) = refl
next_now run (Gives number value) = refl
next_now run (LeavesOut number) = refl
next_now run (TakesEffect number) = refl
next_now run (Fails number) = refl
next_now run (Ends number) = refl
next_now run Resets = refl
next_now run (NoneOlderThan number) = refl
next_now run Settles = refl
next_now run Crowds = refl

next_oldest : (run : Run) (event : Event) → (run_next run event).oldest ≡ oldest_then run.oldest event
next_oldest run (Reads number) = refl
next_oldest run (Writes number) = refl
next_oldest run (Others number) = refl
next_oldest run (Tells number byte) = refl
next_oldest run (Gives number value) = refl
next_oldest run (LeavesOut number) = refl
next_oldest run (TakesEffect number) = refl
next_oldest run (Fails number) = refl
next_oldest run (Ends number) = refl
next_oldest run Resets = refl
next_oldest run (NoneOlderThan number) = refl
next_oldest run Settles = refl
next_oldest run Crowds = refl

changes_both : (run other : Run) (number : ℕ) (event : Event) → IsOf number event → EndsNone event → AreOpenToo run.accesses other.accesses
    → AreOpenToo (run_next run event).accesses (run_next other event).accesses
changes_both run other number event of none too =
    subst (λ (accesses : List Access). AreOpenToo accesses (run_next other event).accesses) (sym (accesses_next number run event of))
    (subst (AreOpenToo _) (sym (accesses_next number other event of))
    (second_changes number other.now event _ other.accesses (first_changes number run.now event run.accesses other.accesses none too)))

live_next : (run other : Run) (event : Event) → AreOpenToo run.accesses other.accesses → AreOpenToo (run_next run event).accesses (run_next other event).accesses
live_next run other (Reads number) too = both_begin (reading number) run.accesses other.accesses too
live_next run other (Writes number) too = both_begin (writing number) run.accesses other.accesses too
live_next run other (Others number) too = too
live_next run other (Tells number byte) too = changes_both run other number (Tells number byte) refl tt too
live_next run other (Gives number value) too = changes_both run other number (Gives number value) refl tt too
live_next run other (LeavesOut number) too = changes_both run other number (LeavesOut number) refl tt too
live_next run other (TakesEffect number) too = changes_both run other number (TakesEffect number) refl tt too
live_next run other (Fails number) too = changes_both run other number (Fails number) refl tt too
live_next run other (Ends number) too = both_end number run.now other.now run.accesses other.accesses too
live_next run other Resets too = all_cut other.now (run_next run Resets).accesses other.accesses
live_next run other (NoneOlderThan number) too = too
live_next run other Settles too = too
live_next run other Crowds too = too

pub both_next : (run other : Run) (event : Event) → AreBeside run other → AreBeside (run_next run event) (run_next other event)
both_next run other event beside =
    record {
      held = same_next run other event beside;
      now = next_now other event ∙ ap (λ n. now_then n event) beside.now ∙ sym (next_now run event);
      oldest = next_oldest other event ∙ ap (λ n. oldest_then n event) beside.oldest ∙ sym (next_oldest run event);
      live = live_next run other event beside.live;
    }

-- where it may come to the first, it may to the second
pub both_may : (run other : Run) (event : Event) → AreBeside run other → MayCome run event → MayCome other event
both_may run other (Reads number) beside may = omega (arith, beside.now, may)
both_may run other (Writes number) beside may = omega (arith, beside.now, may)
both_may run other (Others number) beside may = omega (arith, beside.now, may)
both_may run other (Tells number byte) beside may = tt
both_may run other (Gives number value) beside may = tt
both_may run other (LeavesOut number) beside may = tt
both_may run other (TakesEffect number) beside may = tt
both_may run other (Fails number) beside may = tt
both_may run other (Ends number) beside may = tt
both_may run other Resets beside may = tt
both_may run other (NoneOlderThan number) beside may =
    (omega (arith, beside.oldest, may.0), omega (arith, beside.now, may.1), none_too number run.accesses other.accesses beside.live may.2)
both_may run other Settles beside may = tt
both_may run other Crowds beside may = tt

-- ---- an event that leaves what is held as it is

-- what a request that began at a number, and hasn't ended, gives to the byte already
abbrev pub GivesAlready : ℕ → Option ℕ → List Access → Type 0
GivesAlready number value accesses = (a : Access) → IsOpenIn number accesses a → option_map (λ (old : Option ℕ). value) a.gives ≡ a.gives

-- it tells a byte; or what a request gives comes that gives nothing, or that already; or it is another event of one that gives nothing
abbrev pub IsNeedless : List Access → Event → Type 0
IsNeedless accesses (Gives number value) = GivesAlready number value accesses
IsNeedless accesses event = IsQuiet accesses event

-- the request that it is of
pub needless_of : (accesses : List Access) (event : Event) → IsNeedless accesses event → (number : ℕ) × IsOf number event
needless_of accesses (Gives number value) needless = (number, refl)
needless_of accesses (Tells number byte) needless = (number, refl)
needless_of accesses (LeavesOut number) needless = (number, refl)
needless_of accesses (TakesEffect number) needless = (number, refl)
needless_of accesses (Fails number) needless = (number, refl)
needless_of accesses (Ends number) needless = (number, refl)
needless_of accesses event needless = absurd needless

module _ (start : Option ℕ) (run : Run) (holds : Holds ⊥ start run) where
  by_quiet : (event : Event) → IsQuiet run.accesses event → (run_next run event).held ≡ run.held
  by_quiet event quiet = (quiet_after ⊥ start run (event ∷ []) holds (quiet, tt)).held

  leaves_given : (number : ℕ) (value : Option ℕ) → GivesAlready number value run.accesses → (a : Access) → IsOpenIn number run.accesses a
      → holding_of (giving value a) ≡ holding_of a
  leaves_given number value already a there = ap (λ (g : Option (Option ℕ)). holding_of (record a { gives = g })) (already a there)

  pub needless_held : (event : Event) → IsNeedless run.accesses event → (run_next run event).held ≡ run.held
  needless_held (Gives number value) needless =
      same_held ⊥ start run holds number (Gives number value) refl (λ a there. leaves_given number value needless a there)
  needless_held (Tells number byte) needless = by_quiet (Tells number byte) needless
  needless_held (LeavesOut number) needless = by_quiet (LeavesOut number) needless
  needless_held (TakesEffect number) needless = by_quiet (TakesEffect number) needless
  needless_held (Fails number) needless = by_quiet (Fails number) needless
  needless_held (Ends number) needless = by_quiet (Ends number) needless
  needless_held event needless = absurd needless

-- the second goes on by it alone
module _ (start : Option ℕ) (run other : Run) (holds : Holds ⊥ start other) (event : Event) (needless : IsNeedless other.accesses event) (beside : AreBeside run other) where
  abbrev number : ℕ
  number = (needless_of other.accesses event needless).0

  its : IsOf number event
  its = (needless_of other.accesses event needless).1

  pub second_may : MayCome other event
  second_may = may_next number other event its

  pub second_next : AreBeside run (run_next other event)
  second_next =
      record {
        held = needless_held start other holds event needless ∙ beside.held;
        now = now_next number other event its ∙ beside.now;
        oldest = oldest_next number other event its ∙ beside.oldest;
        live = subst (AreOpenToo run.accesses) (sym (accesses_next number other event its)) (second_changes number other.now event run.accesses other.accesses beside.live);
      }

  -- and so does the first, where it ends no request
  pub first_next : EndsNone event → AreBeside (run_next run event) other
  first_next none =
      record {
        held = sym (needless_held start other holds event needless) ∙ same_next run other event beside;
        now = beside.now ∙ sym (now_next number run event its);
        oldest = beside.oldest ∙ sym (oldest_next number run event its);
        live = subst (λ (accesses : List Access). AreOpenToo accesses other.accesses) (sym (accesses_next number run event its))
            (first_changes number run.now event run.accesses other.accesses none beside.live);
      }

pub holds_next : (start : Option ℕ) (run : Run) (event : Event) → Holds ⊥ start run → MayCome run event → Holds ⊥ start (run_next run event)
holds_next start run event holds may = next_holds ⊥ start run holds event may (λ never. absurd never)
