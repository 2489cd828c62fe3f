-- A filter of a list in which one entry is changed, taken out or put at the end. Lists alone: no requests, no bursts.
use Rattle.std.proofs.Common.{◌≡◌, Bool, true, false, List, [], ◌∷◌, refl, arith, Some, if◌then◌else◌}
use Rattle.std.specs.List.{AllByRecursion, filter, find}
use Rattle.bus_words.specs.Places.{change_first, without_first}

-- what a search finds in a list it finds in what a filter keeps, if the filter keeps it
pub find-filter : {X : Type 0} (p q : X → Bool) (xs : List X) (x : X) → find p xs ≡ Some x → q x ≡ true → find p (filter q xs) ≡ Some x
find-filter p q [] x found kept = absurd (cc (found))
find-filter p q (y ∷ ys) x found kept = grind (arith, find-filter p q ys x)

-- the changed entry is one that the filter keeps, before and after
pub filter-change-kept : {X : Type 0} (p q : X → Bool) (f : X → X) (xs : List X) (x : X) → find p xs ≡ Some x → q x ≡ true → q (f x) ≡ true
    → filter q (change_first p f xs) ≡ change_first p f (filter q xs)
filter-change-kept p q f [] x found kept still = absurd (cc (found))
filter-change-kept p q f (y ∷ ys) x found kept still = grind (arith, filter-change-kept p q f ys x)

-- it is one that the filter doesn't keep
pub filter-change-other : {X : Type 0} (p q : X → Bool) (f : X → X) (xs : List X) (x : X) → find p xs ≡ Some x → q x ≡ false → q (f x) ≡ false
    → filter q (change_first p f xs) ≡ filter q xs
filter-change-other p q f [] x found fails still = refl
filter-change-other p q f (y ∷ ys) x found fails still = grind (arith, filter-change-other p q f ys x)

-- ---- where each entry that passes the one test is kept by the other

-- the first that passes is the first of those that are kept
pub find-kept : {X : Type 0} (p q : X → Bool) (xs : List X) → ((x : X) → p x ≡ true → q x ≡ true) → find p (filter q xs) ≡ find p xs
find-kept p q [] within = refl
find-kept p q (y ∷ ys) within = grind (arith, within y, find-kept p q ys within)

-- it is taken out
pub filter-without-kept : {X : Type 0} (p q : X → Bool) (xs : List X) → ((x : X) → p x ≡ true → q x ≡ true) → filter q (without_first p xs) ≡ without_first p (filter q xs)
filter-without-kept p q [] within = refl
filter-without-kept p q (y ∷ ys) within = grind (arith, within y, filter-without-kept p q ys within)

-- what a filter keeps passes
pub all_kept : {X : Type 0} (q : X → Bool) (xs : List X) → AllByRecursion (λ x. q x ≡ true) (filter q xs)
all_kept q [] = tt
all_kept {X = X} q (y ∷ ys) = by_test (q y) refl (all_kept q ys)
  where
    by_test : (b : Bool) → q y ≡ b → AllByRecursion (λ x. q x ≡ true) (filter q ys) → AllByRecursion (λ x. q x ≡ true) (if b then y ∷ filter q ys else filter q ys)
    by_test b is rest = grind (arith, is, rest)

-- what holds of each entry by two things that hold of each
pub all_both : {X : Type 0} (P Q R : X → Type 0) (xs : List X) → ((x : X) → P x → Q x → R x) → AllByRecursion P xs → AllByRecursion Q xs → AllByRecursion R xs
all_both P Q R [] both ps qs = tt
all_both P Q R (x ∷ xs) both ps qs = (both x ps.0 qs.0, all_both P Q R xs both ps.1 qs.1)

-- ---- the first entry passes

pub without_head : {X : Type 0} (test : X → Bool) (xs : List X) (x : X) (later : List X) → xs ≡ x ∷ later → test x ≡ true → without_first test xs ≡ later
without_head test xs x later is passes = rw (is, passes) refl

pub change_head : {X : Type 0} (test : X → Bool) (change : X → X) (xs : List X) (x : X) (later : List X) → xs ≡ x ∷ later → test x ≡ true → change_first test change xs ≡ change x ∷ later
change_head test change xs x later is passes = rw (is, passes) refl
