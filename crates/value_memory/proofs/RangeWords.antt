-- The words of a range, and its lanes in each.
use Rattle.std.proofs.Common.{◌≡◌, ℕ, zero, suc, ◌+◌, ◌-◌, ◌*◌, ◌/◌, ◌%◌, ◌^◌, ◌<◌, ◌≤◌, max, true, ◌&&◌, nat_le, nat_lt, refl, sym, ◌∙◌, inl, inr, arith}
use Rattle.std.proofs.lemmas.Bool.{cases_lt}
use Rattle.std.proofs.lemmas.Bool.Decides.{nat_tests}
use Rattle.bus_words.specs.Lanes.{has_lane, is_between}
use Rattle.tl_messages.specs.Lanes.{in_lanes, lane_of}
use Rattle.data_unit.proofs.AlignedLanes.{in_lanes-aligned, in_lanes_every}
use Rattle.value_memory.specs.ValueMemory.{IsByteRange, is_in, word_count}
use Rattle.value_memory.specs.declared.ByteRange.{ByteRange}

-- what holds of each size up to 12
each_size : (P : ℕ → Type 0) → P 0 → P 1 → P 2 → P 3 → P 4 → P 5 → P 6 → P 7 → P 8 → P 9 → P 10 → P 11 → P 12 → (s : ℕ) → s ≤ 12 → P s
each_size P p0 p1 p2 p3 p4 p5 p6 p7 p8 p9 p10 p11 p12 zero small = p0
each_size P p0 p1 p2 p3 p4 p5 p6 p7 p8 p9 p10 p11 p12 (suc zero) small = p1
each_size P p0 p1 p2 p3 p4 p5 p6 p7 p8 p9 p10 p11 p12 (suc (suc zero)) small = p2
each_size P p0 p1 p2 p3 p4 p5 p6 p7 p8 p9 p10 p11 p12 (suc (suc (suc zero))) small = p3
each_size P p0 p1 p2 p3 p4 p5 p6 p7 p8 p9 p10 p11 p12 (suc (suc (suc (suc zero)))) small = p4
each_size P p0 p1 p2 p3 p4 p5 p6 p7 p8 p9 p10 p11 p12 (suc (suc (suc (suc (suc zero))))) small = p5
each_size P p0 p1 p2 p3 p4 p5 p6 p7 p8 p9 p10 p11 p12 (suc (suc (suc (suc (suc (suc zero)))))) small = p6
each_size P p0 p1 p2 p3 p4 p5 p6 p7 p8 p9 p10 p11 p12 (suc (suc (suc (suc (suc (suc (suc zero))))))) small = p7
each_size P p0 p1 p2 p3 p4 p5 p6 p7 p8 p9 p10 p11 p12 (suc (suc (suc (suc (suc (suc (suc (suc zero)))))))) small = p8
each_size P p0 p1 p2 p3 p4 p5 p6 p7 p8 p9 p10 p11 p12 (suc (suc (suc (suc (suc (suc (suc (suc (suc zero))))))))) small = p9
each_size P p0 p1 p2 p3 p4 p5 p6 p7 p8 p9 p10 p11 p12 (suc (suc (suc (suc (suc (suc (suc (suc (suc (suc zero)))))))))) small = p10
each_size P p0 p1 p2 p3 p4 p5 p6 p7 p8 p9 p10 p11 p12 (suc (suc (suc (suc (suc (suc (suc (suc (suc (suc (suc zero))))))))))) small = p11
each_size P p0 p1 p2 p3 p4 p5 p6 p7 p8 p9 p10 p11 p12 (suc (suc (suc (suc (suc (suc (suc (suc (suc (suc (suc (suc zero)))))))))))) small = p12
each_size P p0 p1 p2 p3 p4 p5 p6 p7 p8 p9 p10 p11 p12 (suc (suc (suc (suc (suc (suc (suc (suc (suc (suc (suc (suc (suc s))))))))))))) small = absurd (omega (arith, small))

-- as many words as bytes fill, the last perhaps in part
pub words_filled : (size : ℕ) → size ≤ 12 → (2 ^ size + 7) / 8 ≡ max 1 (2 ^ size / 8)
words_filled = each_size (λ s. (2 ^ s + 7) / 8 ≡ max 1 (2 ^ s / 8)) refl refl refl refl refl refl refl refl refl refl refl refl refl

pub few_bytes : (size : ℕ) → size ≤ 12 → 2 ^ size ≤ 4096
few_bytes = each_size (λ s. 2 ^ s ≤ 4096) (omega arith) (omega arith) (omega arith) (omega arith) (omega arith) (omega arith) (omega arith) (omega arith) (omega arith) (omega arith) (omega arith)
    (omega arith) (omega arith)

-- each word lies in the range's page
pub word_in_page : (range : ByteRange) (place : ℕ) → IsByteRange range → place < word_count range → (range.address + place * 8) / 4096 ≡ range.address / 4096
word_in_page range place is below = at range.size is.small is.aligned below
  where
    at : (s : ℕ) → s ≤ 12 → range.address % 2 ^ s ≡ 0 → place < max 1 (2 ^ s / 8) → (range.address + place * 8) / 4096 ≡ range.address / 4096
    at = each_size (λ s. range.address % 2 ^ s ≡ 0 → place < max 1 (2 ^ s / 8) → (range.address + place * 8) / 4096 ≡ range.address / 4096)
        (λ even less. omega (arith, less)) (λ even less. omega (arith, less)) (λ even less. omega (arith, less)) (λ even less. omega (arith, less))
        (λ even less. omega (arith, even, less)) (λ even less. omega (arith, even, less)) (λ even less. omega (arith, even, less)) (λ even less. omega (arith, even, less))
        (λ even less. omega (arith, even, less)) (λ even less. omega (arith, even, less)) (λ even less. omega (arith, even, less)) (λ even less. omega (arith, even, less))
        (λ even less. omega (arith, even, less))

-- ---- its lanes

-- a range of less than a word
narrow : (address x s : ℕ) → s < 3 → address % 2 ^ s ≡ 0 → x / 8 ≡ address / 8 → in_lanes address s (x % 8) ≡ (nat_le address x && nat_lt x (address + 2 ^ s))
narrow address x s small aligned same = in_lanes-aligned address s (x % 8) (omega arith) aligned ∙ at s small
  where
    at : (s : ℕ) → s < 3 → is_between (lane_of address) (lane_of address + 2 ^ s - 1) (x % 8) ≡ (nat_le address x && nat_lt x (address + 2 ^ s))
    at zero less = grind (arith, nat_tests, same)
    at (suc zero) less = grind (arith, nat_tests, same)
    at (suc (suc zero)) less = grind (arith, nat_tests, same)
    at (suc (suc (suc s))) less = absurd (omega (arith, less))

wide : (address x place s : ℕ) → s ≤ 12 → 3 ≤ s → address % 2 ^ s ≡ 0 → place < max 1 (2 ^ s / 8) → x / 8 ≡ address / 8 + place → (address ≤ x) × (x < address + 2 ^ s)
wide address x place s small =
    each_size (λ s. 3 ≤ s → address % 2 ^ s ≡ 0 → place < max 1 (2 ^ s / 8) → x / 8 ≡ address / 8 + place → (address ≤ x) × (x < address + 2 ^ s))
    (λ big even less at. absurd (omega (arith, big))) (λ big even less at. absurd (omega (arith, big))) (λ big even less at. absurd (omega (arith, big)))
    (λ big even less at. (omega (arith, even, at), omega (arith, even, less, at))) (λ big even less at. (omega (arith, even, at), omega (arith, even, less, at)))
    (λ big even less at. (omega (arith, even, at), omega (arith, even, less, at))) (λ big even less at. (omega (arith, even, at), omega (arith, even, less, at)))
    (λ big even less at. (omega (arith, even, at), omega (arith, even, less, at))) (λ big even less at. (omega (arith, even, at), omega (arith, even, less, at)))
    (λ big even less at. (omega (arith, even, at), omega (arith, even, less, at))) (λ big even less at. (omega (arith, even, at), omega (arith, even, less, at)))
    (λ big even less at. (omega (arith, even, at), omega (arith, even, less, at))) (λ big even less at. (omega (arith, even, at), omega (arith, even, less, at)))
    s small

one_word : (s place : ℕ) → s < 3 → place < max 1 (2 ^ s / 8) → place ≡ 0
one_word zero place small less = omega (arith, less)
one_word (suc zero) place small less = omega (arith, less)
one_word (suc (suc zero)) place small less = omega (arith, less)
one_word (suc (suc (suc s))) place small less = absurd (omega (arith, small))

both_tests : (a x b : ℕ) → a ≤ x → x < b → (nat_le a x && nat_lt x b) ≡ true
both_tests a x b low high = grind (arith, nat_tests, low, high)

-- in each of its words a range has the bytes of its lanes
pub lanes_in : (range : ByteRange) (mask place x : ℕ) → IsByteRange range → place < word_count range → x / 8 ≡ range.address / 8 + place
    → ((lane : ℕ) → lane < 8 → has_lane mask lane ≡ in_lanes range.address range.size lane) → has_lane mask (x % 8) ≡ is_in range x
lanes_in range mask place x is below at lanes =
    lanes (x % 8) (omega arith)
    ∙ elim (cases_lt range.size 3) [
      | inl small ↦
          let first : place ≡ 0 = one_word range.size place small below in
          narrow range.address x range.size small is.aligned (omega (arith, at, first))
      | inr big ↦
          let both = wide range.address x place range.size is.small big is.aligned below at in
          in_lanes_every range.address range.size (x % 8) big (omega arith) ∙ sym (both_tests range.address x (range.address + 2 ^ range.size) both.0 both.1)
    ]

-- a byte of a range is in one of its words
pub words_share : (range : ByteRange) (x : ℕ) → IsByteRange range → is_in range x ≡ true → (range.address / 8 ≤ x / 8) × (x / 8 < range.address / 8 + word_count range)
words_share range x is within = at range.size is.small is.aligned (grind (arith, nat_tests, within)) (grind (arith, nat_tests, within))
  where
    at : (s : ℕ) → s ≤ 12 → range.address % 2 ^ s ≡ 0 → range.address ≤ x → x < range.address + 2 ^ s → (range.address / 8 ≤ x / 8) × (x / 8 < range.address / 8 + max 1 (2 ^ s / 8))
    at = each_size (λ s. range.address % 2 ^ s ≡ 0 → range.address ≤ x → x < range.address + 2 ^ s → (range.address / 8 ≤ x / 8) × (x / 8 < range.address / 8 + max 1 (2 ^ s / 8)))
        (λ even low high. (omega (arith, low), omega (arith, even, low, high))) (λ even low high. (omega (arith, low), omega (arith, even, low, high)))
        (λ even low high. (omega (arith, low), omega (arith, even, low, high))) (λ even low high. (omega (arith, low), omega (arith, even, low, high)))
        (λ even low high. (omega (arith, low), omega (arith, even, low, high))) (λ even low high. (omega (arith, low), omega (arith, even, low, high)))
        (λ even low high. (omega (arith, low), omega (arith, even, low, high))) (λ even low high. (omega (arith, low), omega (arith, even, low, high)))
        (λ even low high. (omega (arith, low), omega (arith, even, low, high))) (λ even low high. (omega (arith, low), omega (arith, even, low, high)))
        (λ even low high. (omega (arith, low), omega (arith, even, low, high))) (λ even low high. (omega (arith, low), omega (arith, even, low, high)))
        (λ even low high. (omega (arith, low), omega (arith, even, low, high)))
