-- Distinct numbers below a bound: there are no more of them than numbers below it.
use Rattle.std.proofs.Common.{◌≡◌, ◌≢◌, ◌<◌, ◌≤◌, ◌==◌, ℕ, zero, suc, Bool, true, false, List, [], ◌∷◌, length, refl, subst, arith}
use Rattle.std.specs.Prelude.{if◌then◌else◌}
use Rattle.std.specs.List.{AllByRecursion}
use Rattle.std.proofs.lemmas.Bool.{eqb-false, eqb-true}
use Rattle.bus_words.specs.Places.{AreDistinct, without_first}
use Rattle.bus_words.proofs.DistinctPlaces.{distinct-without_first}

below : (n : ℕ) (numbers : List ℕ) → AllByRecursion (λ m. m ≢ n) numbers → AllByRecursion (λ m. m < suc n) numbers → AllByRecursion (λ m. m < n) numbers
below n [] others all = tt
below n (m ∷ numbers) others all = (omega (arith, others.0, all.0), below n numbers others.1 all.1)

-- those below the next number, without this one
without_last : (n : ℕ) (numbers : List ℕ) → AreDistinct numbers → AllByRecursion (λ m. m < suc n) numbers → AllByRecursion (λ m. m < n) (without_first (λ m. m == n) numbers)
without_last n [] distinct all = tt
without_last n (m ∷ numbers) distinct all = by_test (m == n) refl (without_last n numbers distinct.1 all.1)
  where
    by_test : (b : Bool) → (m == n) ≡ b → AllByRecursion (λ k. k < n) (without_first (λ k. k == n) numbers)
        → AllByRecursion (λ k. k < n) (if b then numbers else m ∷ without_first (λ k. k == n) numbers)
    by_test true is rest = below n numbers (subst (λ k. AllByRecursion (λ j. j ≢ k) numbers) (eqb-true m n is) distinct.0) all.1
    by_test false is rest = (omega (arith, all.0, eqb-false m n is), rest)

one_out : {X : Type 0} (p : X → Bool) (xs : List X) → length xs ≤ suc (length (without_first p xs))
one_out p [] = omega arith
one_out p (x ∷ xs) = grind (arith, one_out p xs)

pub few_below : (n : ℕ) (numbers : List ℕ) → AreDistinct numbers → AllByRecursion (λ m. m < n) numbers → length numbers ≤ n
few_below zero [] distinct all = omega arith
few_below zero (m ∷ numbers) distinct all = absurd (omega (arith, all.0))
few_below (suc n) numbers distinct all =
    let less = few_below n (without_first (λ m. m == n) numbers) (distinct-without_first (λ m. m == n) numbers distinct) (without_last n numbers distinct all) in
    omega (arith, less, one_out (λ m. m == n) numbers)
