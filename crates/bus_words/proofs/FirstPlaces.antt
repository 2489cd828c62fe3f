-- The first entry of a list that passes a test, by its place.
use Rattle.std.proofs.Common.{◌≡◌, ℕ, zero, suc, ◌+◌, ◌<◌, ◌≤◌, Bool, true, false, cond, not, nat_lt, List, [], ◌∷◌, length, get_or, refl, ◌∙◌, ap, arith}
use Rattle.std.proofs.Math.ListN.{set}
use Rattle.std.proofs.Math.Seq.{set_out}
use Rattle.std.proofs.lemmas.Bool.{ltb-true}
use Rattle.std.proofs.lemmas.Bool.Decides.{nat_tests}
use Rattle.std.proofs.lemmas.List.Folds.{find_at}
use Rattle.std.proofs.lemmas.List.Sums.{passes_at_first}
use Rattle.std.proofs.lemmas.Option.{slice_get-get_or}
use Rattle.std.specs.List.{position_or_len, find, position, remove, slice_get}
use Rattle.std.specs.Prelude.{Some, None}
use Rattle.bus_words.specs.Places.{change_first, without_first}

-- a place within a list, the first whose entry passes a test
pub record IsFirst {X : Type 0} (p : X → Bool) (xs : List X) (k : ℕ) : Type 0 where
  pub within : k < length xs
  pub first : position_or_len p xs ≡ k

some_by : (b : Bool) (n k : ℕ) → cond b (Some n) None ≡ Some k → (b ≡ true) × (n ≡ k)
some_by true n k same = (refl, cc)
some_by false n k same = absurd (cc)

none_by : (b : Bool) (n : ℕ) → cond b (Some n) None ≡ None → b ≡ false
none_by true n same = absurd (cc)
none_by false n same = refl

pub position_is_first : {X : Type 0} (p : X → Bool) (xs : List X) (k : ℕ) → position p xs ≡ Some k → IsFirst p xs k
position_is_first p xs k found =
    let parts = some_by (nat_lt (position_or_len p xs) (length xs)) (position_or_len p xs) k found in
    let inside = ltb-true (position_or_len p xs) (length xs) parts.0 in
    record { within = omega (arith, inside, parts.1); first = parts.1 }

-- where no entry passes, the place is past the end
position_is_past : {X : Type 0} (p : X → Bool) (xs : List X) → position p xs ≡ None → length xs ≤ position_or_len p xs
position_is_past p xs missing =
    let test = none_by (nat_lt (position_or_len p xs) (length xs)) (position_or_len p xs) missing in
    grind (arith, nat_tests, test)

slice_get_past : {X : Type 0} (xs : List X) (i : ℕ) → length xs ≤ i → slice_get xs i ≡ None
slice_get_past [] i past = refl
slice_get_past (x ∷ xs) zero past = absurd (omega arith)
slice_get_past (x ∷ xs) (suc i) past = slice_get_past xs i (omega arith)

-- the entry at the first place passes
pub first-passes : {X : Type 0} (p : X → Bool) (xs : List X) (k : ℕ) (d : X) → IsFirst p xs k → p (get_or xs k d) ≡ true
first-passes p xs k d at = rw at.first at (passes_at_first p xs d (rw at.first at.within))

-- what a search finds is the entry at the first place
pub find-first : {X : Type 0} (p : X → Bool) (xs : List X) (k : ℕ) (d : X) → IsFirst p xs k → find p xs ≡ Some (get_or xs k d)
find-first p xs k d at = find_at p xs ∙ ap (slice_get xs) at.first ∙ slice_get-get_or xs k d at.within

pub find-none : {X : Type 0} (p : X → Bool) (xs : List X) → position p xs ≡ None → find p xs ≡ None
find-none p xs missing = find_at p xs ∙ slice_get_past xs (position_or_len p xs) (position_is_past p xs missing)

-- a change of the first entry that passes is a store at its place
change_first-set : {X : Type 0} (p : X → Bool) (f : X → X) (xs : List X) (d : X) → change_first p f xs ≡ set xs (position_or_len p xs) (f (get_or xs (position_or_len p xs) d))
change_first-set p f [] d = refl
change_first-set p f (x ∷ xs) d = by_test (p x) (change_first-set p f xs d)
  where
    by_test : (b : Bool) → change_first p f xs ≡ set xs (position_or_len p xs) (f (get_or xs (position_or_len p xs) d))
        → cond b (f x ∷ xs) (x ∷ change_first p f xs) ≡ set (x ∷ xs) (cond (not b) (1 + position_or_len p xs) 0) (f (get_or (x ∷ xs) (cond (not b) (1 + position_or_len p xs) 0) d))
    by_test true rest = refl
    by_test false rest =
        let next : 1 + position_or_len p xs ≡ suc (position_or_len p xs) = omega arith in
        rw (next, rest) refl

pub change_first-first : {X : Type 0} (p : X → Bool) (f : X → X) (xs : List X) (k : ℕ) (d : X) → IsFirst p xs k → change_first p f xs ≡ set xs k (f (get_or xs k d))
change_first-first p f xs k d at = rw at.first at (change_first-set p f xs d)

-- where no entry passes, nothing is changed
pub change_first-none : {X : Type 0} (p : X → Bool) (f : X → X) (xs : List X) → position p xs ≡ None → change_first p f xs ≡ xs
change_first-none p f [] missing = refl
change_first-none p f (x ∷ xs) missing = change_first-set p f (x ∷ xs) x ∙ set_out (x ∷ xs) _ _ (position_is_past p (x ∷ xs) missing)

-- a list without its first entry that passes is the list with its place taken out
without_first-remove : {X : Type 0} (p : X → Bool) (xs : List X) → position_or_len p xs < length xs → without_first p xs ≡ remove xs (position_or_len p xs)
without_first-remove p [] within = absurd (omega arith)
without_first-remove {X = X} p (x ∷ xs) within = by_test (p x) within (without_first-remove p xs)
  where
    by_test : (b : Bool) → cond (not b) (1 + position_or_len p xs) 0 < suc (length xs) → (position_or_len p xs < length xs → without_first p xs ≡ remove xs (position_or_len p xs))
        → cond b xs (x ∷ without_first p xs) ≡ remove (x ∷ xs) (cond (not b) (1 + position_or_len p xs) 0)
    by_test true within rest = refl
    by_test false within rest =
        let next : 1 + position_or_len p xs ≡ suc (position_or_len p xs) = omega arith in
        rw next (ap (λ (ys : List X). x ∷ ys) (rest (omega arith)))

pub without_first-first : {X : Type 0} (p : X → Bool) (xs : List X) (k : ℕ) → IsFirst p xs k → without_first p xs ≡ remove xs k
without_first-first p xs k at = rw at.first at (without_first-remove p xs (rw at.first at.within))

-- two tests that agree find the same
pub find-same : {X : Type 0} (p q : X → Bool) (xs : List X) → ((x : X) → p x ≡ q x) → find p xs ≡ find q xs
find-same p q [] same = refl
find-same p q (x ∷ xs) same = rw (same x, find-same p q xs same) refl
