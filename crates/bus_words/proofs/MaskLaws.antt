-- Sets of lanes: a mask built from a test has just the lanes that pass it, and a mask is known by its lanes.
use Rattle.std.proofs.Common.{◌≡◌, ℕ, zero, suc, ◌+◌, ◌-◌, ◌*◌, ◌^◌, ◌<◌, ◌≤◌, ◌==◌, nat_le, min, Bool, true, false, ◌&&◌, if◌then◌else◌, bit_and, refl, sym, ◌∙◌, ap, arith, pow-suc, eq-or-lt_of_le, inl, inr, lit<}
use Rattle.std.proofs.Math.Nat.{sub_self}
use Rattle.std.proofs.lemmas.Bool.{cases_lt, and_left, and_right, and_from, lt-leb, le-leb}
use Rattle.std.proofs.Math.Pow.{pow_mono, pow_pos}
use Rattle.std.proofs.lemmas.Nat.Bits.{bit_at_mask_inside, bit_at_mask_above, bit_at_mask_below, bit_at_cat_low, bit_at_cat_high, bit_at-lt, same_from_bits_below, bit_at_lowest, bit_at_and}
use Rattle.std.specs.Int.{bit_at, sum_through}
use Rattle.bus_words.specs.Lanes.{has_lane, mask_of, is_between}

-- what a lane is worth in a mask
abbrev pub weight : (ℕ → Bool) → ℕ → ℕ
weight test lane = if test lane then 2 ^ lane else 0

-- whether a lane is in, as a bit
bit : (ℕ → Bool) → ℕ → ℕ
bit test lane = if test lane then 1 else 0

weight-bit : (test : ℕ → Bool) (lane : ℕ) → weight test lane ≡ bit test lane * 2 ^ lane
unfolding bit
weight-bit test lane = elim (test lane) as (λ b. (if b then 2 ^ lane else 0) ≡ (if b then 1 else 0) * 2 ^ lane) [ true ↦ omega arith | false ↦ omega arith ]

bit-lt : (test : ℕ → Bool) (lane : ℕ) → bit test lane < 2
unfolding bit
bit-lt test lane = elim (test lane) as (λ b. (if b then 1 else 0) < 2) [ true ↦ omega arith | false ↦ omega arith ]

weight-le : (test : ℕ → Bool) (lane : ℕ) → weight test lane ≤ 2 ^ lane
weight-le test lane = elim (test lane) as (λ b. (if b then 2 ^ lane else 0) ≤ 2 ^ lane) [ true ↦ omega arith | false ↦ omega arith ]

sum_through-lt : (test : ℕ → Bool) (top : ℕ) → sum_through (weight test) top < 2 ^ suc top
sum_through-lt test zero = elim (test 0) as (λ b. (if b then 2 ^ 0 else 0) < 2 ^ 1) [ true ↦ omega arith | false ↦ omega arith ]
sum_through-lt test (suc top) = omega (arith, sum_through-lt test top, weight-le test (suc top), pow-suc 2 (suc top))

-- the bits of a sum of weights are those of the test, up to its top lane
bit_at-sum_through : (test : ℕ → Bool) (top lane : ℕ) → lane ≤ top → bit_at (sum_through (weight test) top) lane ≡ bit test lane
unfolding bit
bit_at-sum_through test zero lane within = rw lowest (elim (test 0) as (λ b. bit_at (if b then 2 ^ 0 else 0) 0 ≡ (if b then 1 else 0)) [ true ↦ refl | false ↦ refl ])
  where
    lowest : lane ≡ 0
    lowest = omega arith
bit_at-sum_through test (suc top) lane within = rw joined (elim (eq-or-lt_of_le within) [ inl here ↦ at_top here | inr below ↦ under below (bit_at-sum_through test top lane (omega arith)) ])
  where
    joined : sum_through (weight test) top + weight test (suc top) ≡ bit test (suc top) * 2 ^ suc top + sum_through (weight test) top
    joined = omega (arith, weight-bit test (suc top))

    under : lane < suc top → bit_at (sum_through (weight test) top) lane ≡ bit test lane → bit_at (bit test (suc top) * 2 ^ suc top + sum_through (weight test) top) lane ≡ bit test lane
    under below rest = bit_at_cat_low (bit test (suc top)) (suc top) (sum_through (weight test) top) lane below ∙ rest

    at_top : lane ≡ suc top → bit_at (bit test (suc top) * 2 ^ suc top + sum_through (weight test) top) lane ≡ bit test lane
    at_top here =
        rw here
        (bit_at_cat_high (bit test (suc top)) (suc top) (sum_through (weight test) top) (suc top) (sum_through-lt test top) (omega arith)
        ∙ rw (sub_self (suc top)) (bit_at_lowest (bit test (suc top)) ∙ omega (arith, bit-lt test (suc top))))

-- a lane is in the mask of a test exactly where it passes it
pub has_lane-mask_of : (test : ℕ → Bool) (lane : ℕ) → lane < 8 → has_lane (mask_of test) lane ≡ test lane
unfolding bit
has_lane-mask_of test lane below =
    ap (λ n. n == 1) (bit_at-sum_through test 7 lane (omega arith))
    ∙ elim (test lane) as (λ b. ((if b then 1 else 0) == 1) ≡ b) [ true ↦ refl | false ↦ refl ]

-- a mask has eight bits
pub mask_of-lt : (test : ℕ → Bool) → mask_of test < 256
mask_of-lt test = sum_through-lt test 7

-- what a mask is, is known from the test on its eight lanes
pub mask_of-same : (f g : ℕ → Bool) → ((lane : ℕ) → lane < 8 → f lane ≡ g lane) → mask_of f ≡ mask_of g
mask_of-same f g same =
    cc (same 0 (lit< tt), same 1 (lit< tt), same 2 (lit< tt), same 3 (lit< tt), same 4 (lit< tt), same 5 (lit< tt), same 6 (lit< tt), same 7 (lit< tt))

bits_agree : (v w lane : ℕ) → has_lane v lane ≡ has_lane w lane → bit_at v lane ≡ bit_at w lane
bits_agree v w lane same = grind (arith, bit_at-lt v lane, bit_at-lt w lane)

-- two masks that have the same lanes are one
pub same_lanes : (v w : ℕ) → v < 256 → w < 256 → ((lane : ℕ) → lane < 8 → has_lane v lane ≡ has_lane w lane) → v ≡ w
same_lanes v w small fits same = same_from_bits_below 8 v w small fits (λ lane below. bits_agree v w lane (same lane below))

-- a mask is the mask of its own lanes
pub mask_of-has_lane : (mask : ℕ) → mask < 256 → mask_of (has_lane mask) ≡ mask
mask_of-has_lane mask fits = same_lanes (mask_of (has_lane mask)) mask (mask_of-lt (has_lane mask)) fits (λ lane below. has_lane-mask_of (has_lane mask) lane below)

-- a lane is in both of two masks where it is in each
pub has_lane-and : (v w lane : ℕ) → has_lane (bit_and v w) lane ≡ (has_lane v lane && has_lane w lane)
has_lane-and v w lane = ap (λ n. n == 1) (bit_at_and v w lane) ∙ both (bit_at v lane) (bit_at w lane) (bit_at-lt v lane) (bit_at-lt w lane)
  where
    both : (a b : ℕ) → a < 2 → b < 2 → (min a b == 1) ≡ ((a == 1) && (b == 1))
    both zero b small fits = grind arith
    both (suc zero) zero small fits = refl
    both (suc zero) (suc zero) small fits = refl
    both (suc zero) (suc (suc b)) small fits = absurd (omega arith)
    both (suc (suc a)) b small fits = absurd (omega arith)

-- the mask of the lanes below n that pass a test
abbrev pub mask_below : (ℕ → Bool) → ℕ → ℕ
mask_below test zero = 0
mask_below test (suc n) = mask_below test n + weight test n

pub mask_below-lt : (test : ℕ → Bool) (n : ℕ) → mask_below test n < 2 ^ n
mask_below-lt test zero = lit< tt
mask_below-lt test (suc n) = omega (arith, mask_below-lt test n, weight-le test n, pow-suc 2 n)

-- the lanes of 2 ^ (highest + 1) - 2 ^ lowest are those between the two
has_lane-between : (lowest highest lane : ℕ) → has_lane (2 ^ suc highest - 2 ^ lowest) lane ≡ is_between lowest highest lane
has_lane-between lowest highest lane =
    elim (cases_lt lane lowest) [ inl under ↦ below under | inr from ↦ elim (cases_lt highest lane) [ inl over ↦ above over | inr to ↦ inside from to ] ]
  where
    below : lane < lowest → has_lane (2 ^ suc highest - 2 ^ lowest) lane ≡ is_between lowest highest lane
    below under = ap (λ n. n == 1) (bit_at_mask_below lowest (suc highest) lane under) ∙ sym (and_left (nat_le lowest lane) (nat_le lane highest) (lt-leb lowest lane under))

    above : highest < lane → has_lane (2 ^ suc highest - 2 ^ lowest) lane ≡ is_between lowest highest lane
    above over =
        ap (λ n. n == 1) (bit_at_mask_above lowest (suc highest) lane (omega arith))
        ∙ sym (and_right (nat_le lowest lane) (nat_le lane highest) (lt-leb lane highest over))

    inside : lowest ≤ lane → lane ≤ highest → has_lane (2 ^ suc highest - 2 ^ lowest) lane ≡ is_between lowest highest lane
    inside from to =
        ap (λ n. n == 1) (bit_at_mask_inside lowest (suc highest) lane from (omega arith))
        ∙ sym (and_from (nat_le lowest lane) (nat_le lane highest) (le-leb lowest lane from) (le-leb lane highest to))

-- the mask of the lanes between two lanes, both of them among them
pub mask_of-is_between : (lowest highest : ℕ) → highest < 8 → mask_of (is_between lowest highest) ≡ 2 ^ suc highest - 2 ^ lowest
mask_of-is_between lowest highest top =
    mask_of-same (is_between lowest highest) (has_lane (2 ^ suc highest - 2 ^ lowest)) (λ lane below. sym (has_lane-between lowest highest lane))
    ∙ mask_of-has_lane (2 ^ suc highest - 2 ^ lowest) fits
  where
    fits : 2 ^ suc highest - 2 ^ lowest < 256
    fits = omega (arith, pow_mono {i = suc highest} {j = 8} (omega arith), pow_pos lowest)
