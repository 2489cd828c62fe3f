-- The words of a range of the memory: where they lie, and which bytes a word's mask has.
use Rattle.std.proofs.Common.{◌≡◌, ℕ, zero, suc, ◌+◌, ◌*◌, ◌/◌, ◌%◌, ◌^◌, ◌<◌, ◌≤◌, ◌==◌, min, Bool, true, false, ◌&&◌, refl, sym, ◌∙◌, ap, arith, inr}
use Rattle.std.proofs.Math.Pow.{mod-mod-pow}
use Rattle.std.proofs.lemmas.Bool.{eq-eqb, eqb-true}
use Rattle.std.proofs.lemmas.Bool.Decides.{nat_tests}
use Rattle.std.proofs.lemmas.Nat.{pow_pos}
use Rattle.bus_words.specs.Lanes.{has_lane, word_address}
use Rattle.tl_messages.specs.Lanes.{in_lanes}
use Rattle.data_unit.proofs.AlignedLanes.{in_lanes-aligned}
use Rattle.meaning.proofs.SerialReplies.{in_page}
use Rattle.sparse_memory.specs.SparseMemory.{is_strobed}
use Rattle.serial_memory.specs.InsideSerial.{IsWithinWord, IsWordAt}

pub word_in_page : (address size place : ℕ) → IsWordAt address size place → (address + place * 8) / 4096 ≡ address / 4096
word_in_page address size place at = in_page 8 address size (place * 8) (inr refl) at.range.small at.range.aligned (omega (arith, at.inside, pow_pos size))

pub word_exists : (address size place : ℕ) → address < 2 ^ 32 → IsWordAt address size place → address + place * 8 < 2 ^ 32
word_exists address size place below at = omega (arith, below, word_in_page address size place at)

aligned_to_word : (address size : ℕ) → address % 2 ^ size ≡ 0 → address % 2 ^ min size 3 ≡ 0
aligned_to_word address zero aligned = aligned
aligned_to_word address (suc zero) aligned = aligned
aligned_to_word address (suc (suc zero)) aligned = aligned
aligned_to_word address (suc (suc (suc n))) aligned =
    let sum : n + 3 ≡ suc (suc (suc n)) = omega arith in
    let least : min (suc (suc (suc n))) 3 ≡ 3 = omega arith in
    let whole : address % 2 ^ (n + 3) ≡ 0 = ap (λ k. address % 2 ^ k) sum ∙ aligned in
    rw least (sym (mod-mod-pow address n 3) ∙ ap (λ z. z % 2 ^ 3) whole)

-- what holds of 1, 2, 4 and 8 bytes
small_size : (P : ℕ → Type 0) → P 0 → P 1 → P 2 → P 3 → (s : ℕ) → s ≤ 3 → P s
small_size P one two four eight zero below = one
small_size P one two four eight (suc zero) below = two
small_size P one two four eight (suc (suc zero)) below = four
small_size P one two four eight (suc (suc (suc zero))) below = eight
small_size P one two four eight (suc (suc (suc (suc s)))) below = absurd (omega (arith, below))

pub word_aligned : (address size place : ℕ) → IsWordAt address size place → (address + place * 8) % 2 ^ min size 3 ≡ 0
word_aligned address size place at =
    small_size (λ s. address % 2 ^ s ≡ 0 → (address + place * 8) % 2 ^ s ≡ 0) (λ even. omega arith) (λ even. omega (arith, even)) (λ even. omega (arith, even)) (λ even. omega (arith, even))
    (min size 3) (omega arith) (aligned_to_word address size at.range.aligned)

-- ---- the bytes of a word

-- at most eight bytes lie in one word
pub same_word : (a s x : ℕ) → s ≤ 3 → a % 2 ^ s ≡ 0 → a ≤ x → x < a + 2 ^ s → x / 8 ≡ a / 8
same_word a s x small aligned low high =
    small_size (λ k. a % 2 ^ k ≡ 0 → x < a + 2 ^ k → x / 8 ≡ a / 8)
    (λ even end. omega (arith, low, end)) (λ even end. omega (arith, even, low, end)) (λ even end. omega (arith, even, low, end)) (λ even end. omega (arith, even, low, end))
    s small aligned high

pub in_word : (a s strobes x : ℕ) → s ≤ 3 → a % 2 ^ s ≡ 0 → a ≤ x → x < a + 2 ^ s → is_strobed a strobes x ≡ has_lane strobes (x % 8)
in_word a s strobes x small aligned low high =
    let same : (word_address x == word_address a) ≡ true = eq-eqb _ _ (ap (λ w. w * 8) (same_word a s x small aligned low high)) in
    rw same refl

-- a lane of at most eight bytes is one of theirs
lane_there : (a s x : ℕ) → s ≤ 3 → a % 2 ^ s ≡ 0 → x / 8 ≡ a / 8 → in_lanes a s (x % 8) ≡ true → (a ≤ x) × (x < a + 2 ^ s)
lane_there a s x small aligned same within =
    let between = sym (in_lanes-aligned a s (x % 8) (omega arith) aligned) ∙ within in
    (grind (arith, nat_tests, between, same, pow_pos s), grind (arith, nat_tests, between, same, pow_pos s))

pub out_of_word : (a s strobes x : ℕ) → s ≤ 3 → a % 2 ^ s ≡ 0 → IsWithinWord a s strobes → ((a ≤ x) → (x < a + 2 ^ s) → ⊥) → is_strobed a strobes x ≡ false
out_of_word a s strobes x small aligned within out = by_tests (word_address x == word_address a) (has_lane strobes (x % 8)) refl refl
  where
    by_tests : (same strobed : Bool) → (word_address x == word_address a) ≡ same → has_lane strobes (x % 8) ≡ strobed → (same && strobed) ≡ false
    by_tests false strobed is has = refl
    by_tests true false is has = refl
    by_tests true true is has =
        let word : x / 8 ≡ a / 8 = omega (arith, eqb-true (word_address x) (word_address a) is) in
        let there = lane_there a s x small aligned word (within (x % 8) (omega arith) has) in
        absurd (out there.0 there.1)
