-- What a read finds at a place of a row: after a store, and of two rows one behind the other.
use Rattle.std.proofs.Common.{◌≡◌, ℕ, zero, suc, ◌-◌, ◌<◌, ◌≤◌, List, [], ◌∷◌, ◌++◌, Some, length, refl, ap, arith}
use Rattle.std.specs.Prelude.{◌≢◌, slice_get, slice_set}

-- what stands at a place within a list
pub there_is : {X : Type 0} (xs : List X) (i : ℕ) → i < length xs → (x : X) × (slice_get xs i ≡ Some x)
there_is [] i within = absurd (omega (arith, within))
there_is (x ∷ xs) zero within = (x, refl)
there_is (x ∷ xs) (suc i) within = there_is xs i (omega (arith, within))

-- ---- a store

pub get_set : {X : Type 0} (xs : List X) (k : ℕ) (x : X) → k < length xs → slice_get (slice_set xs k x) k ≡ Some x
get_set [] k x below = absurd (omega (arith, below))
get_set (y ∷ ys) zero x below = refl
get_set (y ∷ ys) (suc k) x below = get_set ys k x (omega (arith, below))

pub get_set-other : {X : Type 0} (xs : List X) (k j : ℕ) (x : X) → j ≢ k → slice_get (slice_set xs k x) j ≡ slice_get xs j
get_set-other [] k j x other = refl
get_set-other (y ∷ ys) zero zero x other = absurd (other refl)
get_set-other (y ∷ ys) zero (suc j) x other = refl
get_set-other (y ∷ ys) (suc k) zero x other = refl
get_set-other (y ∷ ys) (suc k) (suc j) x other = get_set-other ys k j x (λ same. other (ap suc same))

pub set_twice : {X : Type 0} (xs : List X) (k : ℕ) (x y : X) → slice_set (slice_set xs k x) k y ≡ slice_set xs k y
set_twice [] k x y = refl
set_twice (z ∷ zs) zero x y = refl
set_twice (z ∷ zs) (suc k) x y = cc (set_twice zs k x y)

pub set_back : {X : Type 0} (xs : List X) (k : ℕ) (x : X) → slice_get xs k ≡ Some x → slice_set xs k x ≡ xs
set_back [] k x there = refl
set_back (y ∷ ys) zero x there = cc
set_back (y ∷ ys) (suc k) x there = cc (set_back ys k x there)

-- ---- one row behind the other

pub slice_get-append-before : {X : Type 0} (xs ys : List X) (k : ℕ) → k < length xs → slice_get (xs ++ ys) k ≡ slice_get xs k
slice_get-append-before [] ys k within = absurd (omega (arith, within))
slice_get-append-before (x ∷ xs) ys zero within = refl
slice_get-append-before (x ∷ xs) ys (suc k) within = slice_get-append-before xs ys k (omega (arith, within))

pub slice_get-append-after : {X : Type 0} (xs ys : List X) (k : ℕ) → length xs ≤ k → slice_get (xs ++ ys) k ≡ slice_get ys (k - length xs)
slice_get-append-after [] ys k past =
    let same : k ≡ k - 0 = omega arith in
    ap (slice_get ys) same
slice_get-append-after (x ∷ xs) ys zero past = absurd (omega (arith, past))
slice_get-append-after (x ∷ xs) ys (suc k) past =
    let less : suc k - suc (length xs) ≡ k - length xs = omega arith in
    rw less (slice_get-append-after xs ys k (omega (arith, past)))
