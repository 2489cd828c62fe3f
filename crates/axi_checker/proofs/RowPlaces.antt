-- A row of entries at the front of a longer list: the first of them that passes, and the row after one was taken out.
use Rattle.std.proofs.Common.{◌≡◌, ℕ, zero, suc, ◌+◌, ◌-◌, ◌<◌, ◌≤◌, Bool, List, [], ◌∷◌, ◌++◌, map, length, take, drop, Some, None, refl, sym, ap, ap₂, ◌∙◌, arith, inl, inr}
use Rattle.std.specs.Int.Count.{count_trailing_zeros, trailing_of_zero}
use Rattle.std.specs.List.{position, position_or_len, remove}
use Rattle.std.proofs.lemmas.Bool.{cases_eq, lt-ltb}
use Rattle.std.proofs.lemmas.Bool.Decides.{nat_tests}
use Rattle.std.proofs.lemmas.List.{drop-take, length-take-le}
use Rattle.std.proofs.Math.Seq.{take-append-add}
use Rattle.std.proofs.lemmas.Simd.{leading_from_mask_l, trailing_mask_l}
use lib.Lanes.{mask_l}

-- the lowest bit of a mask of 64 is at the first entry that passes
pub lowest_bit : {X : Type 0} (p : X → Bool) (xs : List X) → length xs ≡ 64 → count_trailing_zeros 64 (mask_l (map p xs)) ≡ position_or_len p xs
lowest_bit p xs long =
    elim (cases_eq (mask_l (map p xs)) 0) [
      | inl none ↦ ap (count_trailing_zeros 64) none ∙ trailing_of_zero 64 ∙ sym (leading_from_mask_l p xs none ∙ long)
      | inr some ↦ trailing_mask_l p 64 xs (omega (arith, long)) (omega (arith, some))
    ]

-- ---- the first n of a list, of which m are looked at
module _ {X : Type 0} (p : X → Bool) where
  before : (n m : ℕ) (xs : List X) → n ≤ m → n ≤ length xs → position_or_len p (take m xs) < n
      → position_or_len p (take n xs) ≡ position_or_len p (take m xs)
  before zero m xs few there within = absurd (omega (arith, within))
  before (suc n) zero xs few there within = absurd (omega (arith, few))
  before (suc n) (suc m) [] few there within = absurd (omega (arith, there))
  before (suc n) (suc m) (x ∷ xs) few there within = grind (arith, within, before n m xs (omega (arith, few)) (omega (arith, there)))

  past : (n m : ℕ) (xs : List X) → n ≤ m → n ≤ length xs → n ≤ position_or_len p (take m xs) → n ≤ position_or_len p (take n xs)
  past zero m xs few there beyond = omega arith
  past (suc n) zero xs few there beyond = absurd (omega (arith, few))
  past (suc n) (suc m) [] few there beyond = absurd (omega (arith, there))
  past (suc n) (suc m) (x ∷ xs) few there beyond = grind (arith, beyond, past n m xs (omega (arith, few)) (omega (arith, there)))

  module _ (n m : ℕ) (xs : List X) (few : n ≤ m) (there : n ≤ length xs) where
    pub first_of_more : position_or_len p (take m xs) < n → Some (position_or_len p (take m xs)) ≡ position p (take n xs)
    first_of_more within = rw (before n m xs few there within, length-take-le n xs there, lt-ltb (position_or_len p (take m xs)) n within) refl

    pub none_of_more : n ≤ position_or_len p (take m xs) → None ≡ position p (take n xs)
    none_of_more beyond = grind (arith, nat_tests, length-take-le n xs there, past n m xs few there beyond)

pub take_of_taken : {X : Type 0} (k n : ℕ) (xs : List X) → k ≤ n → take k xs ≡ take k (take n xs)
take_of_taken zero n xs few = refl
take_of_taken (suc k) zero xs few = absurd (omega (arith, few))
take_of_taken (suc k) (suc n) [] few = refl
take_of_taken (suc k) (suc n) (x ∷ xs) few = ap (λ l. x ∷ l) (take_of_taken k n xs (omega (arith, few)))

-- a row of n without entry k, which the 64 behind it moved over
module _ {X : Type 0} (xs ys : List X) (n k : ℕ) (here : k < n) (few : n ≤ 64) (room : k + 65 ≤ length xs)
    (moved : take (k + 64) ys ≡ take k xs ++ take 64 (drop (k + 1) xs)) where
  behind : take (n - (k + 1)) (drop (k + 1) xs) ≡ drop (suc k) (take n xs)
  behind =
      let next : k + 1 ≡ suc k = omega arith in
      let whole : suc k + (n - (k + 1)) ≡ n = omega (arith, here) in
      ap (λ j. take (n - (k + 1)) (drop j xs)) next ∙ sym (drop-take (suc k) (n - (k + 1)) xs) ∙ ap (λ j. drop (suc k) (take j xs)) whole

  pub gap_closed : take (n - 1) ys ≡ remove (take n xs) k
  gap_closed =
      let rest = drop (k + 1) xs in
      let m = n - (k + 1) in
      let front = length-take-le k xs (omega (arith, room)) in
      let count : n - 1 ≡ length (take k xs) + m = omega (arith, front, here) in
      take_of_taken (n - 1) (k + 64) ys (omega (arith, few))
      ∙ ap₂ take count moved
      ∙ take-append-add (take k xs) (take 64 rest) m
      ∙ ap₂ (λ a b. a ++ b) (take_of_taken k n xs (omega (arith, here))) (sym (take_of_taken m 64 rest (omega (arith, few))) ∙ behind)
