-- Lists of numbers of requests.
use Rattle.std.proofs.Common.{◌≡◌, ℕ, zero, suc, ap, map, refl, replicate}
use Rattle.std.specs.Prelude.{Bool, true, false, List, [], ◌∷◌, None, Some, if◌then◌else◌}
use Rattle.std.specs.List.{AllByRecursion, find}
use Rattle.bus_words.specs.Places.{without_first}
use Rattle.value_board.specs.ClientValues.{IsAsked, never_asked}

-- a list of which no entry passes loses none
pub without_none : {X : Type 0} (p : X → Bool) (xs : List X) → find p xs ≡ None → without_first p xs ≡ xs
without_none p [] none = refl
without_none {X = X} p (x ∷ xs) none = by_test (p x) none (without_none p xs)
  where
    by_test : (b : Bool) → (if b then Some x else find p xs) ≡ None → (find p xs ≡ None → without_first p xs ≡ xs) → (if b then xs else x ∷ without_first p xs) ≡ x ∷ xs
    by_test true none rest = absurd (cc)
    by_test false none rest = ap (λ (ys : List X). x ∷ ys) (rest none)

-- what is true of a source of which nothing was asked is true of many
pub never_all : (n : ℕ) → AllByRecursion IsAsked (replicate n never_asked)
never_all zero = tt
never_all (suc n) = (record { range = tt; step = tt }, never_all n)

pub map-same : {X : Type 0} (xs : List X) → map (λ (x : X). x) xs ≡ xs
map-same [] = refl
map-same {X = X} (x ∷ xs) = ap (λ (ys : List X). x ∷ ys) (map-same xs)
