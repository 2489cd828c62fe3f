-- The words that reads belong to.
use Rattle.std.proofs.Common.{◌≡◌, ℕ, zero, suc, ◌+◌, ◌-◌, ◌*◌, ◌/◌, ◌%◌, ◌^◌, ◌<◌, ◌≤◌, max, true, arith, inl, inr}
use Rattle.std.proofs.Math.Pow.{pow_mono, mod-mod-pow}
use Rattle.std.proofs.lemmas.Bool.{cases_lt, le-leb, lt-leb}
use Rattle.std.proofs.lemmas.Nat.{pow-add}
use Rattle.tl_messages.specs.Lanes.{lane_of}
use Rattle.tl_messages.proofs.BeatCounts.{beats_of-le}
use Rattle.axi_beats.specs.Transfers.{IsBusWidth}
use Rattle.responses.specs.Gathered.{reads_of, word_of_read, words_of}
use Rattle.responses.specs.declared.gather.Outline.{Outline}

-- eight bytes or more are whole words
pub eighths : (size : ℕ) → 3 ≤ size → (2 ^ size / 8 * 8 ≡ 2 ^ size) × (8 ≤ 2 ^ size)
eighths size big =
    let parts : size - 3 + 3 ≡ size = omega arith in
    let times : 2 ^ size ≡ 2 ^ (size - 3) * 8 = rw parts at (pow-add 2 (size - 3) 3) in
    (omega arith, pow_mono {i = 3} {j = size} big)

-- a range of eight bytes or more is one of whole words
pub whole_words : (address size : ℕ) → 3 ≤ size → address % 2 ^ size ≡ 0 → (lane_of address ≡ 0) × (2 ^ size / 8 * 8 ≡ 2 ^ size) × (8 ≤ 2 ^ size)
whole_words address size big aligned =
    let parts : size - 3 + 3 ≡ size = omega arith in
    let eighth : address % 2 ^ size % 8 ≡ address % 8 = rw parts at (mod-mod-pow address (size - 3) 3) in
    let times : 2 ^ size ≡ 2 ^ (size - 3) * 8 = rw parts at (pow-add 2 (size - 3) 3) in
    (omega arith, omega arith, pow_mono {i = 3} {j = size} big)

-- a range of fewer bytes stays in its half of a word
pub narrow : (address size : ℕ) → size < 3 → (2 ^ size / 4 ≤ 1) × (2 ^ size / 8 ≡ 0)
narrow address zero small = (omega arith, omega arith)
narrow address (suc zero) small = (omega arith, omega arith)
narrow address (suc (suc zero)) small = (omega arith, omega arith)
narrow address (suc (suc (suc size))) small = absurd (omega arith)

-- a reply has at most 512 words
pub words_of-le : (outline : Outline) → outline.size ≤ 12 → words_of outline ≤ 512
words_of-le outline small = grind (arith, beats_of-le outline.size true small)

at_place : (bus_bytes place : ℕ) (outline : Outline) → IsBusWidth bus_bytes → place < max 1 (2 ^ outline.size / bus_bytes)
    → word_of_read bus_bytes outline place < max 1 (2 ^ outline.size / 8)
at_place bus_bytes place outline (inr eight) below = rw eight (rw eight at below)
at_place bus_bytes place outline (inl four) below =
    let within : place < max 1 (2 ^ outline.size / 4) = rw four at below in
    rw four (elim (cases_lt outline.size 3) [
      | inl small ↦ rw (lt-leb 3 outline.size small) (omega arith)
      | inr big ↦ rw (le-leb 3 outline.size big) (omega (arith, eighths outline.size big))
    ])

-- a read's word is one of the reply's
pub word_of_read-lt : (bus_bytes place : ℕ) (outline : Outline) → IsBusWidth bus_bytes → place < reads_of bus_bytes outline
    → word_of_read bus_bytes outline place < words_of outline
word_of_read-lt bus_bytes place outline width below = grind (arith, at_place bus_bytes place outline width)
