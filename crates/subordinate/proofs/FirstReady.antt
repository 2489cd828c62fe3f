-- The smallest number that passes a test, and the smallest ID of a set.
use Rattle.std.proofs.Common.{◌≡◌, ℕ, zero, suc, ◌+◌, ◌<◌, ◌≤◌, ◌==◌, true, false, Some, inl, inr, refl, sym, ap, arith}
use Rattle.std.specs.Int.{trailing_zeros, w16}
use Rattle.std.specs.List.{range_with_len}
use Rattle.std.specs.Prelude.{find}
use Rattle.std.proofs.lemmas.Bool.{cases_lt}
use Rattle.std.proofs.lemmas.Nat.Bits.{bit_at-trailing_zeros}
use Rattle.subordinate.specs.Bursts.{has_id}

-- a search of numbers that follow one another finds the first that is in a set
find_first : (ids from n id : ℕ) → from ≤ id → id < from + n → has_id ids id ≡ true → ((other : ℕ) → other < id → has_id ids other ≡ false) → find (has_id ids) (range_with_len from n) ≡ Some id
find_first ids from zero id low high has none = absurd (omega (arith, low, high))
find_first ids from (suc n) id low high has none =
    elim (cases_lt from id) [
      | inl before ↦ rw (none from before) (find_first ids (from + 1) n id (omega (arith, before)) (omega (arith, high)) has none)
      | inr past ↦ (let here : from ≡ id = omega (arith, low, past) in rw (here, has) refl)
    ]

-- the lowest bit of a set that isn't empty
pub first_has : (ids : ℕ) → 0 < ids → ids < 65536 → Some (trailing_zeros w16 ids) ≡ find (has_id ids) (range_with_len 0 16)
first_has ids some small =
    let lowest = bit_at-trailing_zeros w16 ids some small in
    let has : has_id ids (trailing_zeros w16 ids) ≡ true = ap (λ bit. bit == 1) lowest.1 in
    sym (find_first ids 0 16 (trailing_zeros w16 ids) (omega arith) (omega (arith, lowest.0)) has (λ other below. ap (λ bit. bit == 1) (lowest.2 other below)))
