-- Calls of a memory, one after another, as one that has the events of all: to each byte, word by word of a range, and where only pages get room.
use Rattle.std.proofs.Common.{◌≡◌, ℕ, ◌/◌, ◌%◌, ◌<◌, ◌≤◌, ◌==◌, Bool, true, false, ◌||◌, List, [], ◌∷◌, ◌++◌, Option, if◌then◌else◌, zero, suc, append-nil, refl, sym, ◌∙◌, ap, subst, arith, ◌+◌}
use Rattle.std.specs.List.{AllByRecursion}
use Rattle.std.proofs.lemmas.Bool.{both_ways, eq-eqb, eqb-true}
use Rattle.bus_words.specs.Lanes.{has_lane}
use Rattle.byte_orders.specs.Runs.{Event, Reads, Writes, Tells, Gives, LeavesOut, TakesEffect, Fails, Ends}
use Rattle.byte_orders.proofs.QuietEvents.{IsOf}
use Rattle.byte_values.specs.Words.{known_byte}
use Rattle.byte_values.specs.declared.known.KnownBytes.{KnownBytes}
use Rattle.value_memory.specs.ByteEvents.{ByteState}
use Rattle.value_memory.specs.ValueMemory.{AllGo, KeepsCounts, ValueState, begins_reading, byte_in, gives_at, given_to, held_in, may_give, shares_word, to_all, to_words}
use Rattle.value_memory.specs.declared.ByteRange.{ByteRange}
use Rattle.value_laws.specs.Kept.{AllGoAlong, GoesAlong}
use Rattle.value_laws.proofs.Open.{BeginsFrom}
use Rattle.value_laws.proofs.Spreads.{along_both, along_nowhere, goes_along}

-- ---- events with which no request begins that is older

abbrev pub AllFrom : ℕ → List Event → Type 0
AllFrom oldest events = AllByRecursion (BeginsFrom oldest) events

pub from_of : (oldest number : ℕ) (event : Event) → IsOf number event → BeginsFrom oldest event
from_of oldest number (Tells other byte) of = tt
from_of oldest number (Gives other value) of = tt
from_of oldest number (LeavesOut other) of = tt
from_of oldest number (TakesEffect other) of = tt
from_of oldest number (Fails other) of = tt
from_of oldest number (Ends other) of = tt
from_of oldest number event of = absurd of

pub from_gives : (oldest number address lanes : ℕ) (known : KnownBytes) (x : ℕ) → AllFrom oldest (gives_at number address lanes known x)
from_gives oldest number address lanes known x = by_word (x / 8 == address / 8)
  where
    by_lane : (b : Bool) (value : Option ℕ) → AllFrom oldest (if b then Gives number value ∷ [] else LeavesOut number ∷ [])
    by_lane true value = (tt, tt)
    by_lane false value = (tt, tt)

    by_word : (b : Bool) → AllFrom oldest (if b then given_to number lanes known (x % 8) else [])
    by_word true = by_lane (has_lane lanes (x % 8)) (known_byte (x % 8) known)
    by_word false = tt

pub from_words : (oldest number : ℕ) (range : ByteRange) (event : Event) (x : ℕ) → IsOf number event → AllFrom oldest (to_words range event x)
from_words oldest number range event x of = by_word (shares_word range x)
  where
    by_word : (b : Bool) → AllFrom oldest (if b then event ∷ [] else [])
    by_word true = (from_of oldest number event of, tt)
    by_word false = tt

pub from_begins : (oldest number : ℕ) (reach : Option ByteRange) (x : ℕ) → oldest ≤ number → AllFrom oldest (begins_reading number reach x)
from_begins oldest number reach x older = by_give (may_give reach x)
  where
    by_give : (b : Bool) → AllFrom oldest (if b then Writes number ∷ [] else Reads number ∷ [])
    by_give true = (older, tt)
    by_give false = (older, tt)

-- ---- each byte

module _ (oldest : ℕ) where
  pub all_goes : (crowded : Bool) (old new : ValueState) (events : ℕ → List Event) → AllGo oldest crowded old new events → AllGoAlong oldest crowded old new events
  all_goes crowded old new events goes x = goes_along oldest crowded (byte_in old x) (byte_in new x) (events x) (goes x)

  pub all_nowhere : (crowded : Bool) (memory : ValueState) → AllGoAlong oldest crowded memory memory (to_all [])
  all_nowhere crowded memory x = along_nowhere oldest crowded (byte_in memory x)

  -- where what is held of each byte stays
  pub all_still : (crowded : Bool) (old new : ValueState) → ((x : ℕ) → held_in new x ≡ held_in old x) → KeepsCounts old new → AllGoAlong oldest crowded old new (to_all [])
  all_still crowded old new held counts x =
      subst (λ (state : ByteState). GoesAlong oldest crowded (byte_in old x) state []) (sym same) (along_nowhere oldest crowded (byte_in old x))
    where
      same : byte_in new x ≡ byte_in old x
      same = cc (counts.begun, counts.oldest, held x)

  pub all_as : (crowded : Bool) (old new : ValueState) (some others : ℕ → List Event) → ((x : ℕ) → some x ≡ others x) → AllGoAlong oldest crowded old new some
      → AllGoAlong oldest crowded old new others
  all_as crowded old new some others same goes x =
      subst (λ (es : List Event). GoesAlong oldest crowded (byte_in old x) (byte_in new x) es) (same x) (goes x)

  -- one call after another
  pub all_then : (crowded other : Bool) (old between new : ValueState) (some others : ℕ → List Event) → ((x : ℕ) → AllFrom oldest (some x))
      → AllGoAlong oldest crowded old between some → AllGoAlong oldest other between new others → AllGoAlong oldest (crowded || other) old new (λ x. some x ++ others x)
  all_then crowded other old between new some others from first next x =
      along_both oldest crowded other (byte_in old x) (byte_in between x) (byte_in new x) (some x) (others x) (from x) (first x) (next x)

-- ---- word by word

-- events for each of so many places, to a byte
abbrev pub each_place : (ℕ → ℕ → List Event) → ℕ → ℕ → List Event
each_place events zero x = []
each_place events (suc count) x = each_place events count x ++ events count x

pub from_places : (oldest : ℕ) (events : ℕ → ℕ → List Event) (count x : ℕ) → ((k : ℕ) → AllFrom oldest (events k x)) → AllFrom oldest (each_place events count x)
from_places oldest events zero x from = tt
from_places oldest events (suc count) x from = both (each_place events count x) (from_places oldest events count x from)
  where
    both : (some : List Event) → AllFrom oldest some → AllFrom oldest (some ++ events count x)
    both some all = all_both some (events count x) all (from count)
      where
        all_both : (xs ys : List Event) → AllFrom oldest xs → AllFrom oldest ys → AllFrom oldest (xs ++ ys)
        all_both [] ys one two = two
        all_both (event ∷ xs) ys one two = (one.0, all_both xs ys one.1 two)

-- a byte to which none of them is; and one to which those for one place are
pub none_there : (events : ℕ → ℕ → List Event) (count x : ℕ) → ((k : ℕ) → k < count → events k x ≡ []) → each_place events count x ≡ []
none_there events zero x none = refl
none_there events (suc count) x none =
    ap (λ (es : List Event). es ++ events count x) (none_there events count x (λ k below. none k (omega (arith, below)))) ∙ none count (omega arith)

pub one_there : (events : ℕ → ℕ → List Event) (count k x : ℕ) → k < count → ((j : ℕ) → j < count → (j ≡ k → ⊥) → events j x ≡ [])
    → each_place events count x ≡ events k x
one_there events zero k x small none = absurd (omega (arith, small))
one_there events (suc count) k x small none = by_last (count == k) refl (λ below. one_there events count k x below (λ j less other. none j (omega (arith, less)) other))
  where
    by_last : (b : Bool) → (count == k) ≡ b → (k < count → each_place events count x ≡ events k x) → each_place events count x ++ events count x ≡ events k x
    by_last true is earlier =
        let same : count ≡ k = eqb-true count k is in
        ap (λ (es : List Event). es ++ events count x) (none_there events count x (λ j less. none j (omega (arith, less)) (λ here. omega (arith, less, here, same))))
        ∙ ap (λ n. events n x) same
    by_last false is earlier =
        let other : count ≡ k → ⊥ = λ same. both_ways (count == k) is (eq-eqb count k same) in
        ap (λ (es : List Event). es ++ events count x) (earlier (omega (arith, small, other)))
        ∙ ap (λ (es : List Event). events k x ++ es) (none count (omega arith) other) ∙ append-nil (events k x)

-- one place more
pub all_places_more : (oldest : ℕ) (old between new : ValueState) (events : ℕ → ℕ → List Event) (k : ℕ) → ((j x : ℕ) → AllFrom oldest (events j x))
    → AllGoAlong oldest false old between (each_place events k) → AllGo oldest false between new (events k) → AllGoAlong oldest false old new (each_place events (k + 1))
all_places_more oldest old between new events k from first next =
    let same : suc k ≡ k + 1 = omega arith in
    subst (λ n. AllGoAlong oldest false old new (each_place events n)) same
    (all_then oldest false false old between new (each_place events k) (events k) (λ x. from_places oldest events k x (λ j. from j x)) first
    (all_goes oldest false between new (events k) next))
