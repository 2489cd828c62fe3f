-- The bits of masks of words.
use Rattle.std.proofs.Common.{◌≡◌, ◌≤◌, ◌<◌, ℕ, ◌+◌, ◌-◌, ◌*◌, ◌%◌, ◌^◌, nat_lt, Bool, true, false, not, cond, eqb, max, List, length, map, bit_or, refl, ap, ◌∙◌, arith}
use Rattle.std.proofs.Math.Nat.{pow-le-pow_right}
use Rattle.std.proofs.lemmas.Bool.Decides.{nat_tests}
use Rattle.std.proofs.lemmas.List.{length-map, get_or-map, get_or_past}
use Rattle.std.proofs.lemmas.Nat.{or_lt, mul-le, pow_pos}
use Rattle.std.proofs.lemmas.Nat.Bits.{bit_at_or, bit_at_above, bit_at_cat_low, bit_at_cat_high, bit_at-zero}
use Rattle.std.proofs.lemmas.Simd.{bit_mask_l, get_or-chunk, length-chunk, mask_l-lt}
use Rattle.std.specs.Int.{bit_at}
use lib.Lanes.{chunk, mask_l}
use Rattle.line_text.specs.Words.{is_in_word}

-- the bits of a mask of n bytes from a place on
pub record OfBytes (line : List ℕ) (at n mask : ℕ) : Type 0 where
  pub here : (k : ℕ) → k < n → bit_at mask k ≡ cond (is_in_word line (at + k)) 1 0
  pub small : mask < 2 ^ n

pub of_bytes : (line : List ℕ) (at n mask : ℕ) → at + n ≤ length line → mask ≡ mask_l (map (λ x. not (eqb x 32)) (chunk at n line)) → OfBytes line at n mask
of_bytes line at n mask within is = record {
  here = λ k below.
      ap (λ m. bit_at m k) is ∙ bit_mask_l (map test lanes) k
      ∙ ap (λ b. cond b 1 0) (get_or-map test lanes k 32 false (omega (arith, below, long)) ∙ ap test (get_or-chunk at n line k 32 below));
  small = (let bound = mask_l-lt (map test lanes) in rw is (rw (length-map lanes test ∙ long) at bound));
}
  where
    lanes : List ℕ
    lanes = chunk at n line

    test : ℕ → Bool
    test x = not (eqb x 32)

    long : length lanes ≡ n
    long = length-chunk at n line within

-- a mask of the first n bytes and one of the last n
module _ (line : List ℕ) (n behind first last : ℕ) (long : behind + n ≡ length line) (over : behind ≤ n) (one : OfBytes line 0 n first) (two : OfBytes line behind n last) where
  moved_low : (k : ℕ) → k < behind → bit_at (last * 2 ^ behind) k ≡ 0
  moved_low k below = grind (arith, below, bit_at_cat_low last behind 0 k below, bit_at-zero k)

  moved_high : (k : ℕ) → behind ≤ k → bit_at (last * 2 ^ behind) k ≡ bit_at last (k - behind)
  moved_high k from = grind (arith, from, bit_at_cat_high last behind 0 k (pow_pos behind) from)

  abbrev word : ℕ → ℕ
  word k = cond (is_in_word line k) 1 0

  first_in : (k : ℕ) → k < n → bit_at first k ≡ cond (is_in_word line k) 1 0
  first_in k below = let same : 0 + k ≡ k = omega arith in one.here k below ∙ ap word same

  last_in : (k : ℕ) → behind ≤ k → k < behind + n → bit_at (last * 2 ^ behind) k ≡ cond (is_in_word line k) 1 0
  last_in k from to = let same : behind + (k - behind) ≡ k = omega arith in moved_high k from ∙ two.here (k - behind) (omega arith) ∙ ap word same

  none_out : (k : ℕ) → behind + n ≤ k → word k ≡ 0
  none_out k out = ap (λ x. cond {A = ℕ} (not (eqb x 32)) 1 0) (get_or_past line k 32 (omega (arith, long)))

  last_out : (k : ℕ) → behind + n ≤ k → bit_at (last * 2 ^ behind) k ≡ 0
  last_out k out = moved_high k (omega arith) ∙ bit_at_above last n (k - behind) two.small (omega arith)

  pub joined_bits : (k : ℕ) → bit_at (bit_or first (last * 2 ^ behind)) k ≡ cond (is_in_word line k) 1 0
  joined_bits k = bit_at_or first (last * 2 ^ behind) k ∙ by_place (nat_lt k n) (nat_lt k behind) (nat_lt k (behind + n)) refl refl refl
    where
      by_place : (low under inside : Bool) → nat_lt k n ≡ low → nat_lt k behind ≡ under → nat_lt k (behind + n) ≡ inside → max (bit_at first k) (bit_at (last * 2 ^ behind) k) ≡ cond (is_in_word line k) 1 0
      by_place true true inside low under is = let below : k < n = grind (arith, nat_tests, low) in let short : k < behind = grind (arith, nat_tests, under) in omega (arith, first_in k below, moved_low k short)
      by_place true false inside low under is =
          let below : k < n = grind (arith, nat_tests, low) in
          let from : behind ≤ k = grind (arith, nat_tests, under) in
          omega (arith, first_in k below, last_in k from (omega arith))
      by_place false under true low _ is =
          let above : n ≤ k = grind (arith, nat_tests, low) in
          let to : k < behind + n = grind (arith, nat_tests, is) in
          omega (arith, bit_at_above first n k one.small above, last_in k (omega arith) to)
      by_place false under false low _ is =
          let above : n ≤ k = grind (arith, nat_tests, low) in
          let out : behind + n ≤ k = grind (arith, nat_tests, is) in
          omega (arith, bit_at_above first n k one.small above, last_out k out, none_out k out)

  -- shifted within 64 bits
  pub joined_mask : n ≤ 32 → behind < 32 → ((k : ℕ) → bit_at (bit_or first (last * 2 ^ behind % 2 ^ 64)) k ≡ cond (is_in_word line k) 1 0) × (bit_or first (last * 2 ^ behind % 2 ^ 64) < 2 ^ 63)
  joined_mask few short =
      let power = pow-le-pow_right {n = 2} (omega arith) {i = n} {j = 32} few in
      let shifted = mul-le last (2 ^ behind) (2 ^ 32 - 1) (2 ^ 31) (omega (arith, two.small, power)) (pow-le-pow_right {n = 2} (omega arith) {i = behind} {j = 31} (omega arith)) in
      let fits : last * 2 ^ behind < 2 ^ 63 = omega (arith, shifted) in
      let same : last * 2 ^ behind % 2 ^ 64 ≡ last * 2 ^ behind = omega (arith, fits) in
      rw same (joined_bits, or_lt 63 first (last * 2 ^ behind) (omega (arith, one.small, power)) fits)
