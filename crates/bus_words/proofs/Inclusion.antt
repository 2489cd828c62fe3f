-- A set of lanes within another: each of its lanes is one of the other's.
use Rattle.std.proofs.Common.{◌≡◌, ℕ, zero, suc, ◌+◌, ◌<◌, ◌≤◌, ◌==◌, min, Bool, true, false, not, ◌||◌, refl, sym, ◌∙◌, ap, arith, eq-or-lt_of_le, inl, inr}
use Rattle.std.specs.Int.{bit_at}
use Rattle.std.specs.Prelude.{bit_and}
use Rattle.std.specs.List.{list_all, range_with_len}
use Rattle.std.proofs.lemmas.Bool.{and_parts, eqb-true, eq-eqb}
use Rattle.std.proofs.lemmas.Nat.{and_le_l}
use Rattle.std.proofs.lemmas.Nat.Bits.{bit_at_and, bit_at-lt, same_from_bits_below}
use Rattle.bus_words.specs.Lanes.{has_lane}
use Rattle.bus_words.proofs.Ranges.{list_all-from}

-- a test that a range passes, number by number
list_all-at : (p : ℕ → Bool) (a n k : ℕ) → list_all p (range_with_len a n) ≡ true → a ≤ k → k < a + n → p k ≡ true
list_all-at p a zero k all low high = absurd (omega arith)
list_all-at p a (suc n) k all low high =
    let parts = and_parts (p a) (list_all p (range_with_len (a + 1) n)) all in
    elim (eq-or-lt_of_le low) [
      | inl here ↦ rw (← here) parts.0
      | inr past ↦ list_all-at p (a + 1) n k parts.1 (omega arith) (omega arith)
    ]

-- two tests that each follow from the other are one
same_tests : (a b : Bool) → (a ≡ true → b ≡ true) → (b ≡ true → a ≡ true) → a ≡ b
same_tests true b there back = sym (there refl)
same_tests false true there back = back refl
same_tests false false there back = refl

-- the lanes that two masks share
lane_shared : (v w lane : ℕ) → (not (has_lane v lane) || has_lane w lane) ≡ true → bit_at (bit_and v w) lane ≡ bit_at v lane
lane_shared v w lane held = bit_at_and v w lane ∙ grind (arith, bit_at-lt v lane, bit_at-lt w lane)

lane_within : (v w lane : ℕ) → bit_and v w ≡ v → (not (has_lane v lane) || has_lane w lane) ≡ true
lane_within v w lane same =
    let shared : min (bit_at v lane) (bit_at w lane) ≡ bit_at v lane = sym (bit_at_and v w lane) ∙ ap (λ m. bit_at m lane) same in
    grind (arith, bit_at-lt v lane, bit_at-lt w lane)

-- a mask that loses no lane to another has just lanes that pass the other's test
pub bit_and-list_all : (v w : ℕ) (test : ℕ → Bool) → v < 256 → ((lane : ℕ) → lane < 8 → has_lane w lane ≡ test lane)
    → (bit_and v w == v) ≡ list_all (λ lane. not (has_lane v lane) || test lane) (range_with_len 0 8)
bit_and-list_all v w test fits lanes = same_tests (bit_and v w == v) (list_all passes (range_with_len 0 8)) there back
  where
    passes : ℕ → Bool
    passes lane = not (has_lane v lane) || test lane

    there : (bit_and v w == v) ≡ true → list_all passes (range_with_len 0 8) ≡ true
    there same = list_all-from passes 0 8 (λ lane low high. rw (lanes lane (omega arith)) at (lane_within v w lane (eqb-true (bit_and v w) v same)))

    back : list_all passes (range_with_len 0 8) ≡ true → (bit_and v w == v) ≡ true
    back all =
        let same : bit_and v w ≡ v =
        same_from_bits_below 8 (bit_and v w) v (omega (arith, and_le_l v w)) fits
        (λ lane below. lane_shared v w lane (rw (lanes lane below) (list_all-at passes 0 8 lane all (omega arith) (omega arith)))) in
        rw same (eq-eqb v v refl)
