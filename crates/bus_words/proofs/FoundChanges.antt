-- The first entry that passes a test, changed or taken out: what a search and a filter find afterwards, by this test and by others.
use Rattle.std.proofs.Common.{◌≡◌, ℕ, zero, suc, ◌+◌, ◌<◌, ◌≤◌, ◌⊎◌, Bool, true, false, List, [], ◌∷◌, ◌++◌, length, drop, take, refl, arith}
use Rattle.std.specs.Prelude.{None, Some}
use Rattle.std.specs.List.{AllByRecursion, filter, find, slice_get}
use Rattle.std.proofs.Math.Seq.{drop-nil, take-nil}
use Rattle.bus_words.specs.Places.{change_first, without_first}
use Rattle.bus_words.proofs.PlaceChanges.{find-passes}

-- ---- a search and a filter

-- the first entry that a filter keeps is what a search finds
pub filter-found : {X : Type 0} (p : X → Bool) (xs : List X) (x : X) → find p xs ≡ Some x → filter p xs ≡ x ∷ drop 1 (filter p xs)
filter-found p [] x found = absurd (cc (found))
filter-found p (y ∷ ys) x found = grind (arith, filter-found p ys x)

-- where a filter keeps nothing a search finds nothing
pub find-none-kept : {X : Type 0} (p : X → Bool) (xs : List X) → length (filter p xs) ≡ 0 → find p xs ≡ None
find-none-kept p [] none = refl
find-none-kept p (y ∷ ys) none = grind (arith, find-none-kept p ys)

-- an entry at the end that fails a test is never found by it
pub find-append-fails : {X : Type 0} (q : X → Bool) (xs : List X) (x : X) → q x ≡ false → find q (xs ++ x ∷ []) ≡ find q xs
find-append-fails q [] x fails = rw fails refl
find-append-fails q (y ∷ ys) x fails = grind (arith, find-append-fails q ys x)

-- ---- the first entry that passes is changed

-- it passes still, so a search finds what it became
pub find-changed : {X : Type 0} (p : X → Bool) (f : X → X) (xs : List X) (x : X) → find p xs ≡ Some x → p (f x) ≡ true → find p (change_first p f xs) ≡ Some (f x)
find-changed p f [] x found passes = absurd (cc (found))
find-changed p f (y ∷ ys) x found passes = grind (arith, find-changed p f ys x)

-- it passes no more, and it was the only one
pub find-changed-gone : {X : Type 0} (p : X → Bool) (f : X → X) (xs : List X) (x : X) → find p xs ≡ Some x → p (f x) ≡ false → length (filter p xs) ≤ 1 → find p (change_first p f xs) ≡ None
find-changed-gone p f [] x found fails one = refl
find-changed-gone p f (y ∷ ys) x found fails one = grind (arith, find-none-kept p ys, find-changed-gone p f ys x)

-- a test that the entry fails, before and after
pub find-changed-other : {X : Type 0} (q p : X → Bool) (f : X → X) (xs : List X) → ((x : X) → p x ≡ true → (q x ≡ false) × (q (f x) ≡ false)) → find q (change_first p f xs) ≡ find q xs
find-changed-other q p f [] apart = refl
find-changed-other q p f (y ∷ ys) apart = grind (arith, apart y, find-changed-other q p f ys apart)

-- a change lets a test find the changed entry that found the entry before, or none
pub find-changed-found : {X : Type 0} (q p : X → Bool) (f : X → X) (xs : List X) (x : X) → find p xs ≡ Some x → q (f x) ≡ true → (find q xs ≡ None) ⊎ (find q xs ≡ Some x)
    → find q (change_first p f xs) ≡ Some (f x)
find-changed-found q p f [] x found passes was = absurd (cc (found))
find-changed-found q p f (y ∷ ys) x found passes was = grind (arith, find-passes p ys x, find-changed-found q p f ys x)

-- a change of an entry that fails a test, before it and after it, isn't seen by it
pub find-changed-unseen : {X : Type 0} (q p : X → Bool) (f : X → X) (xs : List X) (x : X) → find p xs ≡ Some x → q x ≡ false → q (f x) ≡ false → find q (change_first p f xs) ≡ find q xs
find-changed-unseen q p f [] x found fails still = refl
find-changed-unseen q p f (y ∷ ys) x found fails still = grind (arith, find-changed-unseen q p f ys x)

some_pass : {X : Type 0} (p q : X → Bool) (xs : List X) (x : X) → find p xs ≡ Some x → q x ≡ true → 1 ≤ length (filter q xs)
some_pass p q [] x found passes = absurd (cc (found))
some_pass p q (y ∷ ys) x found passes = grind (arith, some_pass p q ys x)

-- an entry that alone passes a test is the one that it finds
pub find-alone : {X : Type 0} (p q : X → Bool) (xs : List X) (x : X) → find p xs ≡ Some x → q x ≡ true → length (filter q xs) ≤ 1 → find q xs ≡ Some x
find-alone p q [] x found passes few = absurd (cc (found))
find-alone p q (y ∷ ys) x found passes few = grind (arith, some_pass p q ys x, find-alone p q ys x)

-- what a filter keeps: the changed one first
pub filter-changed : {X : Type 0} (p : X → Bool) (f : X → X) (xs : List X) (x : X) → find p xs ≡ Some x → p (f x) ≡ true → filter p (change_first p f xs) ≡ f x ∷ drop 1 (filter p xs)
filter-changed p f [] x found passes = absurd (cc (found))
filter-changed p f (y ∷ ys) x found passes = grind (arith, filter-changed p f ys x)

pub filter-changed-other : {X : Type 0} (q p : X → Bool) (f : X → X) (xs : List X) → ((x : X) → p x ≡ true → (q x ≡ false) × (q (f x) ≡ false)) → filter q (change_first p f xs) ≡ filter q xs
filter-changed-other q p f [] apart = refl
filter-changed-other q p f (y ∷ ys) apart = grind (arith, apart y, filter-changed-other q p f ys apart)

-- ---- it is taken out

pub filter-without : {X : Type 0} (p : X → Bool) (xs : List X) → filter p (without_first p xs) ≡ drop 1 (filter p xs)
filter-without p [] = refl
filter-without p (y ∷ ys) = grind (arith, filter-without p ys)

-- an entry taken out that fails a test isn't missed by it
pub find-without_first : {X : Type 0} (P : X → Type 0) (q p : X → Bool) (xs : List X) → ((x : X) → P x → p x ≡ true → q x ≡ false) → AllByRecursion P xs → find q (without_first p xs) ≡ find q xs
find-without_first P q p [] fails all = refl
find-without_first P q p (x ∷ xs) fails all = grind (arith, fails x all.0, find-without_first P q p xs fails all.1)

pub filter-without-other : {X : Type 0} (q p : X → Bool) (xs : List X) → ((x : X) → p x ≡ true → q x ≡ false) → filter q (without_first p xs) ≡ filter q xs
filter-without-other q p [] apart = refl
filter-without-other q p (y ∷ ys) apart = grind (arith, apart y, filter-without-other q p ys apart)

-- ---- a part of a list, from one place to another

-- its first entry, and what is left without it
pub record IsNextOf {X : Type 0} (xs : List X) (from to : ℕ) (x : X) (rest : List X) : Type 0 where
  pub at : slice_get xs from ≡ Some x
  pub within : from < to
  pub less : drop (from + 1) (take to xs) ≡ rest

pub part-next : {X : Type 0} (xs : List X) (from to : ℕ) (x : X) (rest : List X) → drop from (take to xs) ≡ x ∷ rest → IsNextOf xs from to x rest
part-next {X = X} [] from to x rest is = absurd (cc (take-nil {A = X} to, drop-nil {A = X} from))
part-next {X = X} (y ∷ ys) from zero x rest is = absurd (cc (drop-nil {A = X} from))
part-next (y ∷ ys) zero (suc to) x rest is = grind arith
part-next (y ∷ ys) (suc from) (suc to) x rest is = grind (arith, part-next ys from to x rest is)

-- nothing is left of it
pub part-empty : {X : Type 0} (xs : List X) (from to : ℕ) → to ≤ from → drop from (take to xs) ≡ []
part-empty {X = X} [] from to past = cc (take-nil {A = X} to, drop-nil {A = X} from)
part-empty (y ∷ ys) from zero past = drop-nil from
part-empty (y ∷ ys) zero (suc to) past = absurd (omega (arith, past))
part-empty (y ∷ ys) (suc from) (suc to) past = part-empty ys from to (omega (arith, past))
