-- A memory on its way with a beat of a reply, and with an error response: what an atomic makes is told once, or was given already; and each request that is struck,
-- by the range of bytes that it may give.
use Rattle.std.proofs.Common.{◌≡◌, ℕ, Bool, true, false, ◌⊎◌, List, [], ◌∷◌, ◌++◌, Option, None, if◌then◌else◌, inl, inr, ⊎_elim, refl, sym, ◌∙◌, ap, subst}
use Rattle.std.specs.Prelude.{IfSome}
use Rattle.std.specs.List.{AllByRecursion}
use Rattle.std.proofs.lemmas.Bool.{both_ways}
use Rattle.byte_orders.specs.Accesses.{IsOneOf}
use Rattle.byte_orders.specs.Runs.{Event, Fails}
use Rattle.byte_orders.proofs.Leading.{AllOf}
use Rattle.byte_orders.proofs.QuietEvents.{IsSilent}
use Rattle.scoreboard.specs.Boards.{Beginning}
use Rattle.scoreboard.specs.declared.Errors.{Errors}
use Rattle.value_memory.specs.ValueMemory.{AllGo, IsByteRange, ValueState, may_give}
use Rattle.value_memory.specs.declared.ByteRange.{ByteRange}
use Rattle.value_orders.specs.Bytes.{gives_at}
use Rattle.value_orders.specs.Events.{known_as, told_as}
use Rattle.value_orders.specs.Histories.{Happening, history_in}
use Rattle.value_orders.specs.RunOrders.{past_of}
use Rattle.value_orders.proofs.EventFlights.{silent_at}
use Rattle.value_laws.specs.Kept.{AllAreOnWay, AllGoAlong, NoneIsOlder, work_after, work_in}
use Rattle.value_laws.proofs.Along.{AllFrom, all_as, all_goes, all_then}
use Rattle.value_laws.proofs.Buts.{but_both, silent_any}
use Rattle.value_laws.proofs.Failing.{EachToldOrSilent, fails_all, map_append}
use Rattle.value_laws.proofs.Reaches.{GivesWithin, outside, shares_reach}
use Rattle.value_laws.proofs.Requests.{AreOwn, known_but, made_but, silent_told_as, told_but}
use Rattle.value_laws.proofs.Turns.{IsBut}
use Rattle.value_laws.proofs.Ways.{way_along, way_fails}

-- ---- requests that have failed

-- of some, each with the bytes that it may give, those that are told to a byte
abbrev pub told_failed : List (ℕ × Option ByteRange) → ℕ → List ℕ
told_failed [] x = []
told_failed (one ∷ rest) x = if shares_reach one.1 x then one.0 ∷ told_failed rest x else told_failed rest x

told_there : (some : List (ℕ × Option ByteRange)) (x number : ℕ) (reach : Option ByteRange) → IsOneOf (number, reach) some → shares_reach reach x ≡ true
    → IsOneOf number (told_failed some x)
told_there [] x number reach at shares = absurd at
told_there (one ∷ rest) x number reach at shares =
    ⊎_elim here (λ later. further (shares_reach one.1 x) (told_there rest x number reach later shares)) at
  where
    further : (b : Bool) → IsOneOf number (told_failed rest x) → IsOneOf number (if b then one.0 ∷ told_failed rest x else told_failed rest x)
    further true later = inr later
    further false later = later

    here : (number, reach) ≡ one → IsOneOf number (if shares_reach one.1 x then one.0 ∷ told_failed rest x else told_failed rest x)
    here same =
        let its : shares_reach one.1 x ≡ true = sym (ap (λ (p : ℕ × Option ByteRange). shares_reach p.1 x) same) ∙ shares in
        rw its (inl (ap (λ (p : ℕ × Option ByteRange). p.0) same))

told_from : (some : List (ℕ × Option ByteRange)) (seen : List ℕ) (x : ℕ) → AllByRecursion (λ (one : ℕ × Option ByteRange). IsOneOf one.0 seen) some → (n : ℕ)
    → IsOneOf n (told_failed some x) → IsOneOf n seen
told_from [] seen x all n at = absurd at
told_from (one ∷ rest) seen x all n at = by_test (shares_reach one.1 x) (λ later. told_from rest seen x all.1 n later) at
  where
    by_test : (b : Bool) → (IsOneOf n (told_failed rest x) → IsOneOf n seen) → IsOneOf n (if b then one.0 ∷ told_failed rest x else told_failed rest x) → IsOneOf n seen
    by_test true goes there = ⊎_elim (λ same. subst (λ k. IsOneOf k seen) (sym same) all.0) goes there
    by_test false goes there = goes there

pub told_both : (some others : List (ℕ × Option ByteRange)) (x : ℕ) → told_failed (some ++ others) x ≡ told_failed some x ++ told_failed others x
told_both [] others x = refl
told_both (one ∷ some) others x = by_test (shares_reach one.1 x) (told_both some others x)
  where
    by_test : (b : Bool) → told_failed (some ++ others) x ≡ told_failed some x ++ told_failed others x
        → (if b then one.0 ∷ told_failed (some ++ others) x else told_failed (some ++ others) x)
        ≡ (if b then one.0 ∷ told_failed some x else told_failed some x) ++ told_failed others x
    by_test true rest = ap (λ (ns : List ℕ). one.0 ∷ ns) rest
    by_test false rest = rest

-- one of them, as an event to each byte
abbrev pub fails_told : ℕ → Option ByteRange → ℕ → List Event
fails_told number reach x = if shares_reach reach x then Fails number ∷ [] else []

fails_one : (number : ℕ) (reach : Option ByteRange) (x : ℕ) → fails_told number reach x ≡ fails_all (told_failed ((number, reach) ∷ []) x)
fails_one number reach x = by_test (shares_reach reach x)
  where
    by_test : (b : Bool) → (if b then Fails number ∷ [] else []) ≡ fails_all (if b then number ∷ [] else [])
    by_test true = refl
    by_test false = refl

from_fails : (oldest : ℕ) (numbers : List ℕ) → AllFrom oldest (fails_all numbers)
from_fails oldest [] = tt
from_fails oldest (number ∷ numbers) = (tt, from_fails oldest numbers)

-- one after others
pub all_failed_more : (oldest : ℕ) (some : List (ℕ × Option ByteRange)) (number : ℕ) (reach : Option ByteRange) (old between new : ValueState)
    → AllGoAlong oldest false old between (λ x. fails_all (told_failed some x)) → AllGo oldest false between new (fails_told number reach)
    → AllGoAlong oldest false old new (λ x. fails_all (told_failed (some ++ (number, reach) ∷ []) x))
all_failed_more oldest some number reach old between new first next =
    all_as oldest false old new (λ x. fails_all (told_failed some x) ++ fails_told number reach x) (λ x. fails_all (told_failed (some ++ (number, reach) ∷ []) x)) same
    (all_then oldest false false old between new (λ x. fails_all (told_failed some x)) (fails_told number reach) (λ x. from_fails oldest (told_failed some x)) first
    (all_goes oldest false between new (fails_told number reach) next))
  where
    same : (x : ℕ) → fails_all (told_failed some x) ++ fails_told number reach x ≡ fails_all (told_failed (some ++ (number, reach) ∷ []) x)
    same x =
        ap (λ (es : List Event). fails_all (told_failed some x) ++ es) (fails_one number reach x)
        ∙ sym (map_append (told_failed some x) (told_failed ((number, reach) ∷ []) x))
        ∙ ap fails_all (sym (told_both some ((number, reach) ∷ []) x))

module _ (errors : Errors) (beginning : Beginning) (happenings : List Happening) where
  -- ---- a beat of a reply that wasn't found wrong

  -- what the request makes of a byte is told as it is; or that byte is another than it may give; or nothing is told, and it gives that already
  abbrev pub IsToldAsMade : ℕ → Option ByteRange → (ℕ → List Event) → (ℕ → List Event) → ℕ → Type 0
  IsToldAsMade number reach given made x =
      (given x ≡ made x) ⊎ (((may_give reach x ≡ false) × AreOwn number (given x) × AllOf number (made x))
      ⊎ ((given x ≡ []) × (made x ≡ known_as number (gives_at beginning.lists errors (past_of (history_in errors beginning happenings) number) x))))

  pub way_shows : (number oldest : ℕ) (crowded : Bool) (reach : Option ByteRange) (told : ℕ → Bool) (byte : ℕ → ℕ) (given made : ℕ → List Event) (old new : ValueState)
      → AllAreOnWay errors beginning happenings (λ x. []) old → AllGoAlong oldest crowded old new given → NoneIsOlder errors beginning happenings (λ x. []) oldest
      → GivesWithin errors beginning happenings number reach → ((x : ℕ) → IsToldAsMade number reach given made x)
      → AllAreOnWay errors beginning happenings (λ x. told_as number (told x) (byte x) ++ made x) new
  way_shows number oldest crowded reach told byte given made old new way goes none within as_made =
      way_along errors beginning happenings (λ x. []) oldest crowded old new given (λ x. told_as number (told x) (byte x) ++ made x) way goes none
      (λ x. ⊎_elim (exactly x) (λ other. ⊎_elim (elsewhere x) (already x) other) (as_made x))
    where
      exactly : (x : ℕ) → given x ≡ made x → IsBut (work_in errors beginning happenings x) (given x) (told_as number (told x) (byte x) ++ made x)
      exactly x same =
          subst (λ (es : List Event). IsBut (work_in errors beginning happenings x) es (told_as number (told x) (byte x) ++ made x)) (sym same)
          (made_but beginning.lists errors x (history_in errors beginning happenings) number number (byte x) (told x) (made x))

      elsewhere : (x : ℕ) → (may_give reach x ≡ false) × AreOwn number (given x) × AllOf number (made x)
          → IsBut (work_in errors beginning happenings x) (given x) (told_as number (told x) (byte x) ++ made x)
      elsewhere x is =
          but_both (work_in errors beginning happenings x) [] (told_as number (told x) (byte x)) (given x) (made x) (told_but number (byte x) (work_in errors beginning happenings x) (told x))
          (silent_any number (work_after (work_in errors beginning happenings x) (told_as number (told x) (byte x))) (given x) (made x)
          (silent_told_as number number (byte x) (work_in errors beginning happenings x) (told x)
          (silent_at beginning.lists errors x (history_in errors beginning happenings) number (within x is.0))) is.1.of is.1.none is.2)

      already : (x : ℕ) → (given x ≡ []) × (made x ≡ known_as number (gives_at beginning.lists errors (past_of (history_in errors beginning happenings) number) x))
          → IsBut (work_in errors beginning happenings x) (given x) (told_as number (told x) (byte x) ++ made x)
      already x is =
          subst (λ (es : List Event). IsBut (work_in errors beginning happenings x) es (told_as number (told x) (byte x) ++ made x)) (sym is.0)
          (subst (λ (es : List Event). IsBut (work_in errors beginning happenings x) [] (told_as number (told x) (byte x) ++ es)) (sym is.1)
          (known_but beginning.lists errors x (history_in errors beginning happenings) number number (byte x) (told x)
          (gives_at beginning.lists errors (past_of (history_in errors beginning happenings) number) x) refl))

  -- ---- requests that have failed

  -- one that has failed is one of them, and gives nothing but to its range; or it gives nothing at all
  pub record IsStruckWith (some : List (ℕ × Option ByteRange)) (number : ℕ) : Type 0 where
    pub reach : Option ByteRange
    pub there : (reach ≡ None) ⊎ IsOneOf (number, reach) some
    pub is_range : IfSome reach IsByteRange
    pub within : GivesWithin errors beginning happenings number reach

  pub way_strikes : (oldest : ℕ) (crowded : Bool) (some : List (ℕ × Option ByteRange)) (seen : List ℕ) (old new : ValueState)
      → AllAreOnWay errors beginning happenings (λ x. []) old → AllGoAlong oldest crowded old new (λ x. fails_all (told_failed some x))
      → NoneIsOlder errors beginning happenings (λ x. []) oldest → AllByRecursion (λ (one : ℕ × Option ByteRange). IsOneOf one.0 seen) some
      → AllByRecursion (IsStruckWith some) seen → AllAreOnWay errors beginning happenings (λ x. fails_all seen) new
  way_strikes oldest crowded some seen old new way goes none from struck =
      way_fails errors beginning happenings (λ x. []) oldest crowded old new (told_failed some) (λ x. seen) way goes none (λ x n at. told_from some seen x from n at)
      (λ x. each x seen struck)
    where
      one_of : (x number : ℕ) → IsStruckWith some number → IsOneOf number (told_failed some x) ⊎ IsSilent number (work_in errors beginning happenings x).accesses
      one_of x number is = by_word (shares_reach is.reach x) refl
        where
          silent : shares_reach is.reach x ≡ false → IsSilent number (work_in errors beginning happenings x).accesses
          silent none =
              silent_at beginning.lists errors x (history_in errors beginning happenings) number (is.within x (outside is.reach x is.is_range none))

          by_word : (b : Bool) → shares_reach is.reach x ≡ b → IsOneOf number (told_failed some x) ⊎ IsSilent number (work_in errors beginning happenings x).accesses
          by_word false none = inr (silent none)
          by_word true shares =
              ⊎_elim (λ no_range. absurd (both_ways (shares_reach is.reach x) (ap (λ (r : Option ByteRange). shares_reach r x) no_range) shares))
              (λ there. inl (told_there some x number is.reach there shares)) is.there

      each : (x : ℕ) (numbers : List ℕ) → AllByRecursion (IsStruckWith some) numbers → EachToldOrSilent (work_in errors beginning happenings x) (told_failed some x) numbers
      each x [] all = tt
      each x (number ∷ numbers) all = (one_of x number all.0, each x numbers all.1)
