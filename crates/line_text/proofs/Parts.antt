-- A list that is cut at a byte, part by part.
use Rattle.std.proofs.Common.{◌≡◌, ◌≢◌, ◌<◌, ◌==◌, ℕ, zero, suc, ◌+◌, List, [], ◌∷◌, ◌++◌, length, length-append, Bool, true, false, get_or, nat_lt, ◌-◌, ◌≤◌, refl, arith}
use Rattle.std.proofs.lemmas.Bool.Decides.{nat_tests}
use Rattle.std.proofs.lemmas.List.{get_or_append_left, get_or-append_right}
use Rattle.std.proofs.lemmas.Grind.{common_steps}
use Rattle.std.specs.List.{slice_split}

-- no byte of the list is c
abbrev pub Lacks : ℕ → List ℕ → Type 0
Lacks c xs = (i : ℕ) → i < length xs → get_or xs i 0 ≢ c

head_differs : (c x : ℕ) (xs : List ℕ) → Lacks c (x ∷ xs) → (x == c) ≡ false
head_differs c x xs lacks = let other : x ≢ c = lacks 0 (grind (arith, common_steps)) in grind (arith, nat_tests)

Lacks-tail : (c x : ℕ) (xs : List ℕ) → Lacks c (x ∷ xs) → Lacks c xs
Lacks-tail c x xs lacks i within = let other = lacks (i + 1) (grind (arith, common_steps)) in grind (arith, common_steps)

pub Lacks-push : (c : ℕ) (xs : List ℕ) (x : ℕ) → Lacks c xs → x ≢ c → Lacks c (xs ++ x ∷ [])
Lacks-push c [] x lacks other zero within = other
Lacks-push c [] x lacks other (suc i) within = absurd (omega (arith, within))
Lacks-push c (y ∷ xs) x lacks other zero within = lacks 0 (grind (arith, common_steps))
Lacks-push c (y ∷ xs) x lacks other (suc i) within = Lacks-push c xs x (Lacks-tail c y xs lacks) other i (omega (arith, within))

pub Lacks-append : (c : ℕ) (xs ys : List ℕ) → Lacks c xs → Lacks c ys → Lacks c (xs ++ ys)
Lacks-append c xs ys first second i within = by_place (nat_lt i (length xs)) refl
  where
    by_place : (test : Bool) → nat_lt i (length xs) ≡ test → get_or (xs ++ ys) i 0 ≢ c
    by_place true is = let below : i < length xs = grind (arith, nat_tests, is) in rw get_or_append_left (first i below)
    by_place false other =
        let over : length xs ≤ i = grind (arith, nat_tests, other) in
        rw (get_or-append_right xs ys (length xs) i 0 refl over) (second (i - length xs) (omega (arith, within, length-append xs ys)))

same_test : (c : ℕ) → (c == c) ≡ true
same_test c = grind (arith, nat_tests)

pub slice_split-lacks : (c : ℕ) (xs : List ℕ) → Lacks c xs → slice_split (λ x. x == c) xs ≡ xs ∷ []
slice_split-lacks c [] lacks = refl
slice_split-lacks c (x ∷ xs) lacks = rw (head_differs c x xs lacks, slice_split-lacks c xs (Lacks-tail c x xs lacks))

pub slice_split-at : (c : ℕ) (xs ys : List ℕ) → Lacks c xs → slice_split (λ x. x == c) (xs ++ c ∷ ys) ≡ xs ∷ slice_split (λ x. x == c) ys
slice_split-at c [] ys lacks = rw (same_test c)
slice_split-at c (x ∷ xs) ys lacks = rw (head_differs c x xs lacks, slice_split-at c xs ys (Lacks-tail c x xs lacks))

-- there is always a first part
pub record Split (c : ℕ) (xs : List ℕ) : Type 0 where
  pub first : List ℕ
  pub others : List (List ℕ)
  pub is : slice_split (λ x. x == c) xs ≡ first ∷ others

pub split : (c : ℕ) (xs : List ℕ) → Split c xs
split c [] = record { first = []; others = []; is = refl }
split c (x ∷ xs) = by_test (split c xs) (x == c) refl
  where
    by_test : Split c xs → (test : Bool) → (x == c) ≡ test → Split c (x ∷ xs)
    by_test rest true same = record { first = []; others = slice_split (λ y. y == c) xs; is = rw same refl }
    by_test rest false other = record { first = x ∷ rest.first; others = rest.others; is = rw (other, rest.is) refl }

-- bytes that aren't c stay in front of the first part
pub slice_split-front : (c : ℕ) (front rest : List ℕ) → Lacks c front → slice_split (λ x. x == c) (front ++ rest) ≡ (front ++ (split c rest).first) ∷ (split c rest).others
slice_split-front c [] rest lacks = (split c rest).is
slice_split-front c (x ∷ front) rest lacks = rw (head_differs c x front lacks, slice_split-front c front rest (Lacks-tail c x front lacks)) refl
