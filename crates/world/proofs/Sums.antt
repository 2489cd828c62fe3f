-- Sums over lists of which one item changes or goes. Lists alone: no requests, no bursts.
use Rattle.std.proofs.Common.{◌≡◌, ℕ, ◌+◌, ◌≤◌, Bool, List, [], ◌∷◌, Some, arith}
use Rattle.std.specs.Prelude.{find, sum_by}
use Rattle.std.specs.List.{AllByRecursion}
use Rattle.std.proofs.lemmas.List.Sums.{sum_by-cons}
use Rattle.bus_words.specs.Places.{change_first, without_first}

-- the first item that passes a test changes: so does the sum
pub sum_between : {X : Type 0} (measure : X → ℕ) (test : X → Bool) (change : X → X) (xs : List X) (x : X) → find test xs ≡ Some x
    → sum_by measure (change_first test change xs) + measure x ≡ sum_by measure xs + measure (change x)
sum_between measure test change [] x found = absurd (cc (found))
sum_between measure test change (y ∷ ys) x found =
    grind (arith, sum_by-cons measure y ys, sum_by-cons measure (change y) ys, sum_by-cons measure y (change_first test change ys), sum_between measure test change ys x)

-- a change that takes nothing from a measure
pub sum_more : {X : Type 0} (P : X → Type 0) (measure : X → ℕ) (test : X → Bool) (change : X → X) (xs : List X) → ((x : X) → P x → measure x ≤ measure (change x)) → AllByRecursion P xs
    → sum_by measure xs ≤ sum_by measure (change_first test change xs)
sum_more P measure test change [] more all = omega arith
sum_more P measure test change (y ∷ ys) more all =
    grind (
      arith,
      sum_by-cons measure y ys,
      sum_by-cons measure (change y) ys,
      sum_by-cons measure y (change_first test change ys),
      more y all.0,
      sum_more P measure test change ys more all.1,
    )

-- the first item that passes a test goes
pub sum_without : {X : Type 0} (measure : X → ℕ) (test : X → Bool) (xs : List X) (x : X) → find test xs ≡ Some x → sum_by measure (without_first test xs) + measure x ≡ sum_by measure xs
sum_without measure test [] x found = absurd (cc)
sum_without measure test (y ∷ ys) x found =
    grind (arith, sum_by-cons measure y ys, sum_by-cons measure y (without_first test ys), sum_without measure test ys x)
