-- A place before which no write lacks data: what is looked for from there on, and the place after a change of the writes.
use Rattle.std.proofs.Common.{◌≡◌, ℕ, zero, suc, ◌+◌, ◌-◌, ◌<◌, ◌≤◌, ◌==◌, nat_lt, true, false, inl, inr, List, [], ◌∷◌, drop, length, get_or, refl, ◌∙◌, ap, arith}
use Rattle.std.proofs.Math.ListN.{set}
use Rattle.std.proofs.lemmas.Bool.{le-ltb, lt-ltb, cases_lt}
use Rattle.std.proofs.lemmas.Bool.Decides.{nat_tests}
use Rattle.std.proofs.lemmas.List.{get_or-set_same, length-set, take-set-le, take_more}
use Rattle.std.proofs.lemmas.List.Edits.{length-remove}
use Rattle.std.specs.List.{AllByRecursion, position, position_or_len, remove}
use Rattle.std.specs.Prelude.{Some, None, if◌then◌else◌, take}
use Rattle.bus_words.proofs.FirstPlaces.{IsFirst}
use Rattle.bus_words.proofs.PlaceChanges.{all-append}
use Rattle.axi_checker.specs.Monitors.{AreComplete}
use Rattle.axi_checker.specs.OpenBursts.{OpenWrite, lacks_data}

abbrev IsFull : OpenWrite → Type 0
IsFull write = lacks_data write ≡ false

-- ---- the oldest that lacks data

first_past : (writes : List OpenWrite) (k : ℕ) → k ≤ length writes → AllByRecursion IsFull (take k writes)
    → position_or_len lacks_data writes ≡ k + position_or_len lacks_data (drop k writes)
first_past writes zero within before = omega arith
first_past [] (suc k) within before = absurd (omega (arith, within))
first_past (w ∷ ws) (suc k) within before =
    let next : 1 + (k + position_or_len lacks_data (drop k ws)) ≡ suc k + position_or_len lacks_data (drop k ws) = omega arith in
    rw before.0 (ap (λ (n : ℕ). 1 + n) (first_past ws k (omega (arith, within)) before.1) ∙ next)

-- it is there where a write that lacks data stands there
here : (writes : List OpenWrite) (k : ℕ) (d : OpenWrite) → k < length writes → AllByRecursion IsFull (take k writes) → lacks_data (get_or writes k d) ≡ true
    → position_or_len lacks_data writes ≡ k
here [] k d within before lacks = absurd (omega (arith, within))
here (w ∷ ws) zero d within before lacks = rw lacks refl
here (w ∷ ws) (suc k) d within before lacks =
    let next : 1 + k ≡ suc k = omega arith in
    rw before.0 (ap (λ (n : ℕ). 1 + n) (here ws k d (omega (arith, within)) before.1 lacks) ∙ next)

pub place_here : (writes : List OpenWrite) (k : ℕ) (d : OpenWrite) → AreComplete writes k → k < length writes → lacks_data (get_or writes k d) ≡ true
    → position lacks_data writes ≡ Some k
place_here writes k d complete within lacks =
    rw (here writes k d within complete.before lacks, lt-ltb k (length writes) within) refl

-- and nowhere where it is past the last write
nowhere : (writes : List OpenWrite) (k : ℕ) → length writes ≤ k → AllByRecursion IsFull (take k writes) → length writes ≤ position_or_len lacks_data writes
nowhere [] k past before = omega arith
nowhere (w ∷ ws) zero past before = absurd (omega (arith, past))
nowhere (w ∷ ws) (suc k) past before = rw before.0 (omega (arith, nowhere ws k (omega (arith, past)) before.1))

pub place_nowhere : (writes : List OpenWrite) (k : ℕ) → AreComplete writes k → length writes ≤ k → position lacks_data writes ≡ None
place_nowhere writes k complete past =
    rw (le-ltb (position_or_len lacks_data writes) (length writes) (nowhere writes k past complete.before)) refl

-- and not before it
pub not_before : (writes : List OpenWrite) (k place : ℕ) → AreComplete writes k → IsFirst lacks_data writes place → k ≤ place
not_before writes k place complete at = omega (arith, first_past writes k complete.within complete.before, at.first)

-- ---- a write that changed

pub complete_set : (writes : List OpenWrite) (k place : ℕ) (new : OpenWrite) → AreComplete writes k → IsFirst lacks_data writes place → AreComplete (set writes place new) k
complete_set writes k place new complete at =
    record {
      within = omega (arith, complete.within, length-set writes place new);
      before = rw (take-set-le k writes place new (not_before writes k place complete at)) complete.before;
    }

-- the place goes on past a write that lacks none
pub complete_past : (writes : List OpenWrite) (k place : ℕ) (d : OpenWrite) → AreComplete writes k → place < length writes → lacks_data (get_or writes place d) ≡ false
    → AreComplete writes (if place == k then k + 1 else k)
complete_past writes k place d complete within full =
    record {
      within = grind (arith, nat_tests, complete.within, within);
      before = grind (arith, nat_tests, complete.before, within, full, more);
    }
  where
    more : k < length writes → lacks_data (get_or writes k d) ≡ false → AllByRecursion IsFull (take (k + 1) writes)
    more inside here = rw (take_more writes k d inside) (all-append IsFull (take k writes) (get_or writes k d) complete.before here)

-- and where the one there lacks none any more
pub complete_filled : (writes : List OpenWrite) (k place : ℕ) (new : OpenWrite) → AreComplete writes k → IsFirst lacks_data writes place → lacks_data new ≡ false
    → AreComplete (set writes place new) (if place == k then k + 1 else k)
complete_filled writes k place new complete at full =
    complete_past (set writes place new) k place new (complete_set writes k place new complete at) (omega (arith, at.within, length-set writes place new))
    (ap lacks_data (get_or-set_same writes place new new at.within) ∙ full)

-- ---- a write that closed

before_below : (k : ℕ) (writes : List OpenWrite) (place : ℕ) → place < length writes → place < suc k → AllByRecursion IsFull (take (suc k) writes)
    → AllByRecursion IsFull (take k (remove writes place))
before_below zero writes place within below before = tt
before_below (suc k) [] place within below before = absurd (omega (arith, within))
before_below (suc k) (w ∷ ws) zero within below before = before.1
before_below (suc k) (w ∷ ws) (suc place) within below before = (before.0, before_below k ws place (omega (arith, within)) (omega (arith, below)) before.1)

before_above : (k : ℕ) (writes : List OpenWrite) (place : ℕ) → place < length writes → k ≤ place → AllByRecursion IsFull (take k writes)
    → AllByRecursion IsFull (take k (remove writes place))
before_above zero writes place within above before = tt
before_above (suc k) [] place within above before = absurd (omega (arith, within))
before_above (suc k) (w ∷ ws) zero within above before = absurd (omega (arith, above))
before_above (suc k) (w ∷ ws) (suc place) within above before = (before.0, before_above k ws place (omega (arith, within)) (omega (arith, above)) before.1)

pub complete_remove : (writes : List OpenWrite) (k place : ℕ) → AreComplete writes k → place < length writes → AreComplete (remove writes place) (if nat_lt place k then k - 1 else k)
complete_remove writes k place complete within =
    record {
      within = grind (arith, nat_tests, length-remove writes place within, complete.within);
      before = before k complete.before;
    }
  where
    before : (k : ℕ) → AllByRecursion IsFull (take k writes)
        → AllByRecursion IsFull (take (if nat_lt place k then k - 1 else k) (remove writes place))
    before zero all = rw (le-ltb place 0 (omega arith)) tt
    before (suc n) all =
        elim (cases_lt place (suc n)) [
          | inl below ↦ (let less : suc n - 1 ≡ n = omega arith in rw (lt-ltb place (suc n) below, less) (before_below n writes place within below all))
          | inr above ↦ rw (le-ltb place (suc n) above) (before_above (suc n) writes place within above all)
        ]
