-- A transfer of a write changes one word of eight bytes, lane by lane: it becomes the old word merged with the beat, moved up to the word's lanes.
use Rattle.std.proofs.Common.{◌≡◌, ℕ, zero, suc, ◌+◌, ◌-◌, ◌*◌, ◌/◌, ◌%◌, ◌^◌, ◌<◌, ◌≤◌, Bool, true, false, inl, inr, refl, sym, ◌∙◌, ap, arith}
use Rattle.std.specs.Prelude.{if◌then◌else◌, fold}
use Rattle.std.specs.Int.{bit_at}
use Rattle.std.specs.List.{range_with_len}
use Rattle.std.proofs.lemmas.Bool.{and_parts, cases_lt}
use Rattle.std.proofs.lemmas.Bool.Decides.{nat_tests}
use Rattle.std.proofs.lemmas.Nat.{pow_pos}
use Rattle.std.proofs.lemmas.Nat.Bits.{bit_at_cat_high, bit_at_cat_low, bit_at-zero}
use Rattle.bus_words.specs.Lanes.{has_lane, lane_byte, word_of_lanes}
use Rattle.bus_words.proofs.LaneLaws.{word_of_lanes-lane_byte, word_of_lanes-same}
use Rattle.axi_beats.specs.Bursts.{strobes_fit}
use Rattle.axi_beats.specs.Transfers.{covers_lane, lane_address, transfer_address}
use Rattle.axi_beats.specs.declared.AwBeat.{AwBeat}
use Rattle.axi_beats.specs.declared.WBeat.{WBeat}
use Rattle.data_unit.specs.Words.{merged}
use Rattle.data_unit.proofs.ByteLaws.{lane_byte-low, lane_byte-up}
use Rattle.subordinate.specs.FreeMemory.{bytes_written, lane_written, writes_lane}
use Rattle.subordinate.specs.InsidePages.{IsTransferOf, first_lane}
use Rattle.subordinate.specs.Pages.{Memory, with_byte, with_word, word_with_byte}
use Rattle.subordinate.proofs.PageLaws.{with_word-same, with_word-with_word, lane_byte-lt, lane_byte-word_with_byte}
use Rattle.subordinate.proofs.TransferWords.{bus_lane, covered_within, first_lane-within, strobes_covered}

-- a word with the byte of one lane set, where a test has that lane of the bus; the bus's lanes begin at `first`
abbrev pub byte_set : (ℕ → Bool) → ℕ → ℕ → ℕ → ℕ → ℕ
byte_set test payload first word lane = if test lane then word_with_byte (first + lane) (lane_byte payload lane) word else word

-- the same for some lanes in a row
abbrev pub bytes_set : (ℕ → Bool) → ℕ → ℕ → ℕ → ℕ → ℕ → ℕ
bytes_set test payload first word from count = fold (byte_set test payload first) word (range_with_len from count)

-- ---- one lane

lane_byte-byte_set-other : (test : ℕ → Bool) (payload first word lane other : ℕ) → (other ≡ first + lane → ⊥) → other < 8 → lane_byte (byte_set test payload first word lane) other ≡ lane_byte word other
lane_byte-byte_set-other test payload first word lane other apart below =
    grind (arith, nat_tests, apart, lane_byte-word_with_byte word (first + lane) (lane_byte payload lane) other (lane_byte-lt payload lane) below)

lane_byte-byte_set-same : (test : ℕ → Bool) (payload first word lane : ℕ) → first + lane < 8
    → lane_byte (byte_set test payload first word lane) (first + lane) ≡ (if test lane then lane_byte payload lane else lane_byte word (first + lane))
lane_byte-byte_set-same test payload first word lane below =
    grind (arith, nat_tests, lane_byte-word_with_byte word (first + lane) (lane_byte payload lane) (first + lane) (lane_byte-lt payload lane) below)

-- ---- lanes in a row

lane_byte-bytes_set-past : (test : ℕ → Bool) (payload first word from count other : ℕ) → other < first + from → other < 8 → lane_byte (bytes_set test payload first word from count) other ≡ lane_byte word other
lane_byte-bytes_set-past test payload first word from zero other before below = refl
lane_byte-bytes_set-past test payload first word from (suc count) other before below =
    lane_byte-bytes_set-past test payload first (byte_set test payload first word from) (from + 1) count other (omega arith) below
    ∙ lane_byte-byte_set-other test payload first word from other (λ same. absurd (omega (arith, same))) below

-- each lane in the row holds the new byte where the test has it, else the old one
lane_byte-bytes_set : (test : ℕ → Bool) (payload first word from count lane : ℕ) → from ≤ lane → lane < from + count → first + lane < 8
    → lane_byte (bytes_set test payload first word from count) (first + lane) ≡ (if test lane then lane_byte payload lane else lane_byte word (first + lane))
lane_byte-bytes_set test payload first word from zero lane low high below = absurd (omega arith)
lane_byte-bytes_set test payload first word from (suc count) lane low high below =
    elim (cases_lt from lane) [
      | inl later ↦
          lane_byte-bytes_set test payload first (byte_set test payload first word from) (from + 1) count lane (omega arith) (omega arith) below
          ∙ ap (λ (byte : ℕ). if test lane then lane_byte payload lane else byte) (lane_byte-byte_set-other test payload first word from (first + lane) (λ same. absurd (omega (arith, same, later))) below)
      | inr here ↦
          (let same : from ≡ lane = omega arith in lane_byte-bytes_set-past test payload first (byte_set test payload first word from) (from + 1) count (first + lane) (omega arith) below
          ∙ rw same (lane_byte-byte_set-same test payload first word lane below))
    ]

-- a word stays a word of its lanes
byte_set-word : (test : ℕ → Bool) (payload first word lane : ℕ) → word_of_lanes (lane_byte word) ≡ word → word_of_lanes (lane_byte (byte_set test payload first word lane)) ≡ byte_set test payload first word lane
byte_set-word test payload first word lane whole =
    elim (test lane) as (λ b. word_of_lanes (lane_byte (if b then word_with_byte (first + lane) (lane_byte payload lane) word else word)) ≡ (if b then word_with_byte (first + lane) (lane_byte payload lane) word else word))
    [ true ↦ word_of_lanes-same _ _ (λ other below. lane_byte-word_with_byte word (first + lane) (lane_byte payload lane) other (lane_byte-lt payload lane) below) | false ↦ whole ]

bytes_set-word : (test : ℕ → Bool) (payload first word from count : ℕ) → word_of_lanes (lane_byte word) ≡ word
    → word_of_lanes (lane_byte (bytes_set test payload first word from count)) ≡ bytes_set test payload first word from count
bytes_set-word test payload first word from zero whole = whole
bytes_set-word test payload first word from (suc count) whole = bytes_set-word test payload first (byte_set test payload first word from) (from + 1) count (byte_set-word test payload first word from whole)

-- ---- a beat moved up to the lanes of the word

-- eight bits of a number are its lowest eight
bit_at-eight : (number k : ℕ) → k < 8 → bit_at (number % 2 ^ 8) k ≡ bit_at number k
bit_at-eight number k below =
    let whole : number / 2 ^ 8 * 2 ^ 8 + number % 2 ^ 8 ≡ number = omega arith in
    sym (bit_at_cat_low (number / 2 ^ 8) 8 (number % 2 ^ 8) k below) ∙ ap (λ (m : ℕ). bit_at m k) whole

has_lane-moved : (strobes first lane : ℕ) → first + lane < 8 → has_lane (strobes * 2 ^ first % 2 ^ 8) (first + lane) ≡ has_lane strobes lane
has_lane-moved strobes first lane below =
    grind (arith, below, bit_at-eight (strobes * 2 ^ first) (first + lane) below, bit_at_cat_high strobes first 0 (first + lane) (pow_pos first) (omega arith))

has_lane-moved_below : (strobes first lane : ℕ) → first ≤ 8 → lane < first → has_lane (strobes * 2 ^ first % 2 ^ 8) lane ≡ false
has_lane-moved_below strobes first lane few below =
    grind (arith, few, below, bit_at-eight (strobes * 2 ^ first) lane (omega arith), bit_at_cat_low strobes first 0 lane below, bit_at-zero lane)

lane_byte-moved : (payload first lane : ℕ) → first + lane < 8 → lane_byte (payload * 2 ^ (8 * first) % 2 ^ 64) (first + lane) ≡ lane_byte payload lane
lane_byte-moved payload first lane below =
    grind (arith, below, lane_byte-low (payload * 2 ^ (8 * first)) 8 (first + lane) below, lane_byte-up payload first (first + lane) (omega arith))

-- the bytes of the strobed lanes, set in a word one after another, are those of a merged word
pub bytes_set-merged : (test : ℕ → Bool) (payload strobes first word : ℕ) → ((lane : ℕ) → lane < 8 → test lane ≡ has_lane strobes lane) → first ≤ 8 → word < 2 ^ 64
    → bytes_set test payload first word 0 8 ≡ merged word (payload * 2 ^ (8 * first) % 2 ^ 64) (strobes * 2 ^ first % 2 ^ 8)
bytes_set-merged test payload strobes first word fit few fits = sym (bytes_set-word test payload first word 0 8 (word_of_lanes-lane_byte word fits)) ∙ word_of_lanes-same _ _ at
  where
    up : (lane : ℕ) → first + lane < 8
        → lane_byte (bytes_set test payload first word 0 8) (first + lane)
        ≡ (if has_lane (strobes * 2 ^ first % 2 ^ 8) (first + lane) then lane_byte (payload * 2 ^ (8 * first) % 2 ^ 64) (first + lane) else lane_byte word (first + lane))
    up lane below =
        lane_byte-bytes_set test payload first word 0 8 lane (omega arith) (omega arith) below
        ∙ ap (λ b. if b then lane_byte payload lane else lane_byte word (first + lane)) (fit lane (omega arith) ∙ sym (has_lane-moved strobes first lane below))
        ∙ ap (λ (byte : ℕ). if has_lane (strobes * 2 ^ first % 2 ^ 8) (first + lane) then byte else lane_byte word (first + lane)) (sym (lane_byte-moved payload first lane below))

    at : (lane : ℕ) → lane < 8
        → lane_byte (bytes_set test payload first word 0 8) lane
        ≡ (if has_lane (strobes * 2 ^ first % 2 ^ 8) lane then lane_byte (payload * 2 ^ (8 * first) % 2 ^ 64) lane else lane_byte word lane)
    at lane below =
        elim (cases_lt lane first) [
          | inl before ↦
              lane_byte-bytes_set-past test payload first word 0 8 lane (omega arith) below
              ∙ ap (λ b. if b then lane_byte (payload * 2 ^ (8 * first) % 2 ^ 64) lane else lane_byte word lane) (sym (has_lane-moved_below strobes first lane few before))
          | inr from ↦ (let whole : first + (lane - first) ≡ lane = omega arith in rw whole at (up (lane - first) (omega arith)))
        ]

-- ---- a transfer

-- the addresses of the lanes of one word
abbrev in_lane : ℕ → ℕ → ℕ
in_lane start lane = start / 8 * 8 + lane

with_byte-word : (memory : Memory) (start lane byte : ℕ) → lane < 8 → with_byte memory (in_lane start lane) byte ≡ with_word memory start (word_with_byte lane byte)
with_byte-word memory start lane byte below = grind (arith, below)

lane_written-word : (bus_bytes : ℕ) (memory : Memory) (aw : AwBeat) (n : ℕ) (w : WBeat) (lane : ℕ) → IsTransferOf bus_bytes aw.address aw.len aw.size n
    → lane_written bus_bytes aw n w memory lane
    ≡ with_word memory (transfer_address aw.address aw.size n) (λ word. byte_set (writes_lane bus_bytes aw n w) w.payload (first_lane bus_bytes (transfer_address aw.address aw.size n)) word lane)
lane_written-word bus_bytes memory aw n w lane is = by_test (writes_lane bus_bytes aw n w lane) refl
  where
    by_test : (b : Bool) → writes_lane bus_bytes aw n w lane ≡ b
        → (if b then with_byte memory (lane_address bus_bytes aw.address aw.size n lane) (lane_byte w.payload lane) else memory)
        ≡ with_word memory (transfer_address aw.address aw.size n)
        (λ word. if b then word_with_byte (first_lane bus_bytes (transfer_address aw.address aw.size n) + lane) (lane_byte w.payload lane) word else word)
    by_test true writes =
        let covered = (and_parts (has_lane w.strobes lane) (covers_lane bus_bytes aw.address aw.size n lane) writes).1 in
        ap (λ (x : ℕ). with_byte memory x (lane_byte w.payload lane)) (bus_lane bus_bytes (transfer_address aw.address aw.size n) lane is.width)
        ∙ with_byte-word memory (transfer_address aw.address aw.size n) (first_lane bus_bytes (transfer_address aw.address aw.size n) + lane) (lane_byte w.payload lane)
        (covered_within bus_bytes aw.address aw.len aw.size n lane is covered)
    by_test false bare = sym (with_word-same memory (transfer_address aw.address aw.size n) (λ word. word) (λ word. refl))

lanes_written-word : (bus_bytes : ℕ) (memory : Memory) (aw : AwBeat) (n : ℕ) (w : WBeat) (from count : ℕ) → IsTransferOf bus_bytes aw.address aw.len aw.size n
    → fold (lane_written bus_bytes aw n w) memory (range_with_len from count)
    ≡ with_word memory (transfer_address aw.address aw.size n)
    (λ word. bytes_set (writes_lane bus_bytes aw n w) w.payload (first_lane bus_bytes (transfer_address aw.address aw.size n)) word from count)
lanes_written-word bus_bytes memory aw n w from zero is = sym (with_word-same memory (transfer_address aw.address aw.size n) (λ word. word) (λ word. refl))
lanes_written-word bus_bytes memory aw n w from (suc count) is =
    lanes_written-word bus_bytes (lane_written bus_bytes aw n w memory from) aw n w (from + 1) count is
    ∙ ap
    (λ (changed : Memory). with_word changed (transfer_address aw.address aw.size n)
    (λ word. bytes_set (writes_lane bus_bytes aw n w) w.payload (first_lane bus_bytes (transfer_address aw.address aw.size n)) word (from + 1) count))
    (lane_written-word bus_bytes memory aw n w from is)
    ∙ with_word-with_word memory (transfer_address aw.address aw.size n)
    (λ word. byte_set (writes_lane bus_bytes aw n w) w.payload (first_lane bus_bytes (transfer_address aw.address aw.size n)) word from)
    (λ word. bytes_set (writes_lane bus_bytes aw n w) w.payload (first_lane bus_bytes (transfer_address aw.address aw.size n)) word (from + 1) count)

-- the word of a transfer after the write's beat was performed
abbrev pub word_after : ℕ → AwBeat → ℕ → WBeat → ℕ → ℕ
word_after bus_bytes aw n w word = bytes_set (writes_lane bus_bytes aw n w) w.payload (first_lane bus_bytes (transfer_address aw.address aw.size n)) word 0 8

-- a transfer of a write changes the word that it lies in
pub bytes_written-one_word : (bus_bytes : ℕ) (memory : Memory) (aw : AwBeat) (n : ℕ) (w : WBeat) → IsTransferOf bus_bytes aw.address aw.len aw.size n
    → bytes_written bus_bytes memory aw n w ≡ with_word memory (transfer_address aw.address aw.size n) (word_after bus_bytes aw n w)
unfolding bytes_written
bytes_written-one_word bus_bytes memory aw n w is = lanes_written-word bus_bytes memory aw n w 0 8 is

-- where its strobes fit, into the old word merged with the beat
pub word_after-merged : (bus_bytes : ℕ) (aw : AwBeat) (n : ℕ) (w : WBeat) (word : ℕ) → IsTransferOf bus_bytes aw.address aw.len aw.size n → strobes_fit bus_bytes aw n w.strobes ≡ true → word < 2 ^ 64
    → word_after bus_bytes aw n w word
    ≡ merged word (w.payload * 2 ^ (8 * first_lane bus_bytes (transfer_address aw.address aw.size n)) % 2 ^ 64) (w.strobes * 2 ^ first_lane bus_bytes (transfer_address aw.address aw.size n) % 2 ^ 8)
word_after-merged bus_bytes aw n w word is fit fits =
    bytes_set-merged (writes_lane bus_bytes aw n w) w.payload w.strobes (first_lane bus_bytes (transfer_address aw.address aw.size n)) word (strobes_covered bus_bytes aw n w.strobes fit)
    (few (first_lane bus_bytes (transfer_address aw.address aw.size n)) (first_lane-within bus_bytes (transfer_address aw.address aw.size n) is.width)) fits
  where
    few : (first : ℕ) → first + bus_bytes ≤ 8 → first ≤ 8
    few first within = omega arith
