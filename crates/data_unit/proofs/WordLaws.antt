-- The lanes of the words that are merged, placed and cut, and the same words by shifts and masks.
use Rattle.std.proofs.Common.{◌≡◌, ℕ, ◌+◌, ◌-◌, ◌*◌, ◌/◌, ◌%◌, ◌^◌, ◌<◌, ◌≤◌, Bool, true, false, if◌then◌else◌, List, map, length, get_or, refl, sym, ◌∙◌, ap, arith, inl, inr, lit<}
use Rattle.std.specs.Prelude.{bit_and, bit_or}
use Rattle.std.specs.List.{All, range_with_len}
use Rattle.std.specs.Int.{byte_at}
use Rattle.std.proofs.Math.Pow.{pow_mono, pow_pos, shl-shr, shl_lt}
use Rattle.std.proofs.Math.Nat.{mod-eq_of_lt}
use Rattle.std.proofs.lemmas.Nat.{and_mask, or_comm, and_le_r, or_lt, and_le_l}
use Rattle.std.proofs.lemmas.Bool.{cases_lt, cond-true, cond-false}
use Rattle.std.proofs.lemmas.Bool.Decides.{nat_tests}
use Rattle.std.proofs.lemmas.List.{get_or_past}
use Rattle.std.proofs.lemmas.List.Elements.{All-from_get_or}
use Rattle.std.proofs.lemmas.List.FromFn.{get_or-map-range_with_len, length-map-range_with_len}
use Rattle.bus_words.specs.Lanes.{lane_byte, has_lane, is_between}
use Rattle.bus_words.proofs.BelowEight.{below_eight}
use Rattle.bus_words.proofs.LaneLaws.{GivesBytes, lane_byte-word_of_lanes, same_lanes}
use Rattle.tl_messages.specs.Lanes.{in_lanes, lane_of}
use Rattle.data_unit.specs.Words.{merged, operand_in, placed_at, bytes_of}
use Rattle.data_unit.specs.Atomics.{modulus}
use Rattle.data_unit.proofs.ByteLaws.{lane_byte-down, lane_byte-low, lane_byte-past, lane_byte-up, lane_byte-up_below, lane_byte-and, lane_byte-or}
use Rattle.data_unit.proofs.NumberLaws.{lane_byte-lt, word_of_lanes-lt, modulus-le, mod-modulus-lt, lane_byte-value, value-lt, bytes_of-value}
use Rattle.data_unit.proofs.AlignedLanes.{aligned_within, in_lanes-aligned}

-- ---- merged words

merged-bytes : (old new strobes : ℕ) → GivesBytes (λ lane. if has_lane strobes lane then lane_byte new lane else lane_byte old lane)
merged-bytes old new strobes = record { at = λ lane below. either (has_lane strobes lane) (lane_byte new lane) (lane_byte old lane) (lane_byte-lt new lane) (lane_byte-lt old lane) }
  where
    either : (b : Bool) (x y : ℕ) → x < 256 → y < 256 → (if b then x else y) < 256
    either true x y p q = p
    either false x y p q = q

-- each lane of a merged word is the new word's where it is strobed, and the old word's elsewhere
pub lane_byte-merged : (old new strobes lane : ℕ) → lane < 8 → lane_byte (merged old new strobes) lane ≡ (if has_lane strobes lane then lane_byte new lane else lane_byte old lane)
lane_byte-merged old new strobes lane below =
    lane_byte-word_of_lanes (λ k. if has_lane strobes k then lane_byte new k else lane_byte old k) lane (merged-bytes old new strobes) below

pub merged-lt : (old new strobes : ℕ) → merged old new strobes < 2 ^ 64
merged-lt old new strobes = word_of_lanes-lt (λ k. if has_lane strobes k then lane_byte new k else lane_byte old k) (merged-bytes old new strobes)

-- a lane of a word with every bit turned over
lane_byte-not : (word lane : ℕ) → word < 2 ^ 64 → lane < 8 → lane_byte (2 ^ 64 - 1 - word) lane ≡ 255 - lane_byte word lane
lane_byte-not word lane fits below =
    below_eight (λ k. lane_byte (2 ^ 64 - 1 - word) k ≡ 255 - lane_byte word k)
    (omega arith) (omega arith) (omega arith) (omega arith) (omega arith) (omega arith) (omega arith) (omega arith) lane below

-- a byte taken where a mask has every bit of it, from one word or the other
chosen : (b : Bool) (x y m : ℕ) → x < 256 → y < 256 → m ≡ (if b then 255 else 0) → bit_or (bit_and y (255 - m)) (bit_and x m) ≡ (if b then x else y)
chosen true x y m p q is =
    rw is (ap (λ n. bit_or n (bit_and x 255)) none ∙ and_mask x 8 ∙ omega arith)
  where
    none : bit_and y 0 ≡ 0
    none = omega (arith, and_le_r y 0)
chosen false x y m p q is =
    rw is (ap (λ n. bit_or (bit_and y 255) n) none ∙ or_comm (bit_and y 255) 0 ∙ and_mask y 8 ∙ omega arith)
  where
    none : bit_and x 0 ≡ 0
    none = omega (arith, and_le_r x 0)

-- a merged word by a mask that has every bit of the strobed lanes
pub merged-masked : (old new strobes wide : ℕ) → old < 2 ^ 64 → new < 2 ^ 64 → wide < 2 ^ 64
    → ((lane : ℕ) → lane < 8 → lane_byte wide lane ≡ (if has_lane strobes lane then 255 else 0))
    → bit_or (bit_and old (2 ^ 64 - 1 - wide)) (bit_and new wide) ≡ merged old new strobes
merged-masked old new strobes wide old_fits new_fits wide_fits lanes =
    same_lanes (bit_or (bit_and old (2 ^ 64 - 1 - wide)) (bit_and new wide)) (merged old new strobes) small (merged-lt old new strobes) each
  where
    small : bit_or (bit_and old (2 ^ 64 - 1 - wide)) (bit_and new wide) < 2 ^ 64
    small = or_lt 64 (bit_and old (2 ^ 64 - 1 - wide)) (bit_and new wide) (omega (arith, and_le_l old (2 ^ 64 - 1 - wide))) (omega (arith, and_le_l new wide))

    each : (lane : ℕ) → lane < 8 → lane_byte (bit_or (bit_and old (2 ^ 64 - 1 - wide)) (bit_and new wide)) lane ≡ lane_byte (merged old new strobes) lane
    each lane below =
        lane_byte-or (bit_and old (2 ^ 64 - 1 - wide)) (bit_and new wide) lane
        ∙ ap (λ n. bit_or n (lane_byte (bit_and new wide) lane)) (lane_byte-and old (2 ^ 64 - 1 - wide) lane ∙ ap (λ n. bit_and (lane_byte old lane) n) (lane_byte-not wide lane wide_fits below))
        ∙ ap (λ n. bit_or (bit_and (lane_byte old lane) (255 - lane_byte wide lane)) n) (lane_byte-and new wide lane)
        ∙ chosen (has_lane strobes lane) (lane_byte new lane) (lane_byte old lane) (lane_byte wide lane) (lane_byte-lt new lane) (lane_byte-lt old lane) (lanes lane below)
        ∙ sym (lane_byte-merged old new strobes lane below)

-- ---- placed numbers

placed-bytes : (number address size : ℕ) → GivesBytes (λ lane. if in_lanes address size lane then byte_at (lane - lane_of address) number else 0)
placed-bytes number address size = record { at = λ lane below. either (in_lanes address size lane) (lane_byte number (lane - lane_of address)) (lane_byte-lt number (lane - lane_of address)) }
  where
    either : (b : Bool) (x : ℕ) → x < 256 → (if b then x else 0) < 256
    either true x p = p
    either false x p = lit< tt

-- each lane of a placed number is a byte of it where the range has that lane, and zero elsewhere
pub lane_byte-placed_at : (number address size lane : ℕ) → lane < 8 → lane_byte (placed_at number address size) lane ≡ (if in_lanes address size lane then byte_at (lane - lane_of address) number else 0)
lane_byte-placed_at number address size lane below =
    lane_byte-word_of_lanes (λ k. if in_lanes address size k then byte_at (k - lane_of address) number else 0) lane (placed-bytes number address size) below

pub placed_at-lt : (number address size : ℕ) → placed_at number address size < 2 ^ 64
placed_at-lt number address size = word_of_lanes-lt (λ k. if in_lanes address size k then byte_at (k - lane_of address) number else 0) (placed-bytes number address size)

-- ---- numbers cut out of a word

-- the bytes of a range of addresses in a word, as a list
bytes_in : ℕ → ℕ → ℕ → List ℕ
bytes_in word address count = map (λ i. lane_byte word (lane_of (address + i))) (range_with_len 0 count)

bytes_in_inside : (word address count i : ℕ) → i < count → get_or (bytes_in word address count) i 0 ≡ lane_byte word (lane_of (address + i))
unfolding bytes_in
bytes_in_inside word address count i below = get_or-map-range_with_len (λ i. lane_byte word (lane_of (address + i))) 0 count i i 0 below (omega arith)

bytes_in_past : (word address count i : ℕ) → count ≤ i → get_or (bytes_in word address count) i 0 ≡ 0
unfolding bytes_in
bytes_in_past word address count i past =
    get_or_past (map (λ i. lane_byte word (lane_of (address + i))) (range_with_len 0 count)) i 0 (omega (arith, length-map-range_with_len (λ i. lane_byte word (lane_of (address + i))) 0 count))

bytes_in_small : (word address count : ℕ) → All (λ b. b < 256) (bytes_in word address count)
unfolding bytes_in
bytes_in_small word address count =
    All-from_get_or (λ b. b < 256) (bytes_in word address count) 0
    (λ i below.
    let inside : i < count = omega (arith, length-map-range_with_len (λ i. lane_byte word (lane_of (address + i))) 0 count) in
    omega (arith, bytes_in_inside word address count i inside, lane_byte-lt word (lane_of (address + i))))

-- byte i of an operand stands in the lane of address + i
pub byte_at-operand_in : (word address size i : ℕ) → i < 2 ^ size → i < 8 → byte_at i (operand_in word address size) ≡ lane_byte word (lane_of (address + i))
unfolding bytes_in
byte_at-operand_in word address size i below within =
    lane_byte-value (bytes_in word address (2 ^ size)) i (bytes_in_small word address (2 ^ size)) within ∙ bytes_in_inside word address (2 ^ size) i below

-- an operand has no byte past its size
byte_at-operand_in_past : (word address size i : ℕ) → 2 ^ size ≤ i → i < 8 → byte_at i (operand_in word address size) ≡ 0
unfolding bytes_in
byte_at-operand_in_past word address size i past within =
    lane_byte-value (bytes_in word address (2 ^ size)) i (bytes_in_small word address (2 ^ size)) within ∙ bytes_in_past word address (2 ^ size) i past

-- the bytes of an operand are those of its range
pub bytes_of-operand_in : (word address size : ℕ) → size ≤ 3 → bytes_of (2 ^ size) (operand_in word address size) ≡ map (λ i. lane_byte word (lane_of (address + i))) (range_with_len 0 (2 ^ size))
unfolding bytes_in
bytes_of-operand_in word address size small =
    let count : length (bytes_in word address (2 ^ size)) ≡ 2 ^ size = length-map-range_with_len (λ i. lane_byte word (lane_of (address + i))) 0 (2 ^ size) in
    rw count at (bytes_of-value (bytes_in word address (2 ^ size)) (bytes_in_small word address (2 ^ size)) (omega (arith, count, pow_mono {i = size} {j = 3} small)))

operand_in-word : (word address size : ℕ) → operand_in word address size < 2 ^ 64
unfolding bytes_in
operand_in-word word address size = value-lt (bytes_in word address (2 ^ size)) (bytes_in_small word address (2 ^ size))

-- ---- both by shifts and masks, for an aligned range of at most eight bytes

abbrev low_part : ℕ → ℕ → ℕ
low_part number size = number % modulus (2 ^ size)

pub operand_in-shifted : (word address size : ℕ) → size ≤ 3 → address % 2 ^ size ≡ 0 → operand_in word address size ≡ word / 2 ^ (8 * lane_of address) % modulus (2 ^ size)
operand_in-shifted word address size small aligned =
    same_lanes (operand_in word address size) (low_part (word / 2 ^ (8 * lane_of address)) size) (operand_in-word word address size) low_fits (λ lane below. elim (cases_lt lane (2 ^ size)) [ inl inside ↦ held lane below inside | inr past ↦ none lane below past ])
  where
    within : lane_of address + 2 ^ size ≤ 8
    within = aligned_within address size small aligned

    low_fits : low_part (word / 2 ^ (8 * lane_of address)) size < 2 ^ 64
    low_fits = omega (arith, mod-modulus-lt (word / 2 ^ (8 * lane_of address)) (2 ^ size), modulus-le (2 ^ size) (omega (arith, within)))

    held : (lane : ℕ) → lane < 8 → lane < 2 ^ size → lane_byte (operand_in word address size) lane ≡ lane_byte (low_part (word / 2 ^ (8 * lane_of address)) size) lane
    held lane below inside =
        let place : lane_of (address + lane) ≡ lane_of address + lane = omega (arith, within) in
        byte_at-operand_in word address size lane inside below
        ∙ ap (λ k. lane_byte word k) place
        ∙ sym (lane_byte-low (word / 2 ^ (8 * lane_of address)) (2 ^ size) lane inside ∙ lane_byte-down word (lane_of address) lane)

    none : (lane : ℕ) → lane < 8 → 2 ^ size ≤ lane → lane_byte (operand_in word address size) lane ≡ lane_byte (low_part (word / 2 ^ (8 * lane_of address)) size) lane
    none lane below past =
        byte_at-operand_in_past word address size lane past below
        ∙ sym (lane_byte-past (low_part (word / 2 ^ (8 * lane_of address)) size) (2 ^ size) lane (mod-modulus-lt (word / 2 ^ (8 * lane_of address)) (2 ^ size)) past)

pub operand_in-lt : (word address size : ℕ) → size ≤ 3 → address % 2 ^ size ≡ 0 → operand_in word address size < modulus (2 ^ size)
operand_in-lt word address size small aligned = rw (operand_in-shifted word address size small aligned) (mod-modulus-lt (word / 2 ^ (8 * lane_of address)) (2 ^ size))

-- a number of so many bytes moved up to its lanes still fits the word
moved_up-lt : (number address size : ℕ) → number < modulus (2 ^ size) → size ≤ 3 → address % 2 ^ size ≡ 0 → number * 2 ^ (8 * lane_of address) < 2 ^ 64
moved_up-lt number address size fits small aligned =
    let within : 8 * 2 ^ size + 8 * lane_of address ≤ 64 = omega (arith, aligned_within address size small aligned) in
    omega (arith, shl_lt (8 * 2 ^ size) (8 * lane_of address) fits, pow_mono {i = 8 * 2 ^ size + 8 * lane_of address} {j = 64} within)

-- the lanes of n bytes of a number that were moved up to lane `first`
by_place : (first n lane number : ℕ) → 0 < n → (if is_between first (first + n - 1) lane then byte_at (lane - first) number else 0) ≡ lane_byte (number % 2 ^ (8 * n) * 2 ^ (8 * first)) lane
by_place first n lane number some = elim (cases_lt lane first) [ inl under ↦ below under | inr from ↦ elim (cases_lt lane (first + n)) [ inl to ↦ inside from to | inr past ↦ above past ] ]
  where
    below : lane < first → (if is_between first (first + n - 1) lane then byte_at (lane - first) number else 0) ≡ lane_byte (number % 2 ^ (8 * n) * 2 ^ (8 * first)) lane
    below under =
        cond-false (is_between first (first + n - 1) lane) (byte_at (lane - first) number) 0 (grind (arith, nat_tests))
        ∙ sym (lane_byte-up_below (number % 2 ^ (8 * n)) first lane under)

    inside : first ≤ lane → lane < first + n → (if is_between first (first + n - 1) lane then byte_at (lane - first) number else 0) ≡ lane_byte (number % 2 ^ (8 * n) * 2 ^ (8 * first)) lane
    inside from to =
        cond-true (is_between first (first + n - 1) lane) (byte_at (lane - first) number) 0 (grind (arith, nat_tests))
        ∙ sym (lane_byte-up (number % 2 ^ (8 * n)) first lane from ∙ lane_byte-low number n (lane - first) (omega arith))

    above : first + n ≤ lane → (if is_between first (first + n - 1) lane then byte_at (lane - first) number else 0) ≡ lane_byte (number % 2 ^ (8 * n) * 2 ^ (8 * first)) lane
    above past =
        cond-false (is_between first (first + n - 1) lane) (byte_at (lane - first) number) 0 (grind (arith, nat_tests))
        ∙ sym (lane_byte-up (number % 2 ^ (8 * n)) first lane (omega arith) ∙ lane_byte-past (number % 2 ^ (8 * n)) n (lane - first) (mod-modulus-lt number n) (omega arith))

pub placed_at-shifted : (number address size : ℕ) → size ≤ 3 → address % 2 ^ size ≡ 0 → placed_at number address size ≡ number % modulus (2 ^ size) * 2 ^ (8 * lane_of address)
placed_at-shifted number address size small aligned =
    same_lanes (placed_at number address size) (low_part number size * 2 ^ (8 * lane_of address)) (placed_at-lt number address size) (moved_up-lt (low_part number size) address size (mod-modulus-lt number (2 ^ size)) small aligned) each
  where
    each : (lane : ℕ) → lane < 8 → lane_byte (placed_at number address size) lane ≡ lane_byte (low_part number size * 2 ^ (8 * lane_of address)) lane
    each lane below =
        lane_byte-placed_at number address size lane below
        ∙ rw (in_lanes-aligned address size lane below aligned) (by_place (lane_of address) (2 ^ size) lane number (pow_pos size))

-- what was placed is cut out again
pub operand_in-placed_at : (number address size : ℕ) → size ≤ 3 → address % 2 ^ size ≡ 0 → number < modulus (2 ^ size) → operand_in (placed_at number address size) address size ≡ number
operand_in-placed_at number address size small aligned fits =
    let whole : number % modulus (2 ^ size) ≡ number = mod-eq_of_lt fits in
    rw (operand_in-shifted (placed_at number address size) address size small aligned, placed_at-shifted number address size small aligned, whole, shl-shr number (8 * lane_of address), whole) refl

-- ---- what the code computes on the way

-- the largest number of so many bytes, as a mask
pub and-largest : (number count : ℕ) → bit_and number (modulus count - 1) ≡ number % modulus count
and-largest number count = and_mask number (8 * count)

-- 2^size as a number of bytes
pub operand_bytes-le : (size : ℕ) → size ≤ 3 → 1 * 2 ^ size % 256 ≤ 8
operand_bytes-le size small = omega (arith, pow_mono {i = size} {j = 3} small)

and-largest_of_size : (number size mask : ℕ) → size ≤ 3 → mask ≡ modulus (1 * 2 ^ size % 256) - 1 → bit_and number mask ≡ number % modulus (2 ^ size)
and-largest_of_size number size mask small is =
    let bytes : 1 * 2 ^ size % 256 ≡ 2 ^ size = omega (arith, pow_mono {i = size} {j = 3} small) in
    ap (λ m. bit_and number m) (is ∙ ap (λ n. modulus n - 1) bytes) ∙ and-largest number (2 ^ size)

pub operand_in-masked : (word address size mask : ℕ) → size ≤ 3 → address % 2 ^ size ≡ 0 → mask ≡ modulus (1 * 2 ^ size % 256) - 1
    → bit_and (word / 2 ^ (8 * lane_of address)) mask ≡ operand_in word address size
operand_in-masked word address size mask small aligned is =
    and-largest_of_size (word / 2 ^ (8 * lane_of address)) size mask small is ∙ sym (operand_in-shifted word address size small aligned)

pub placed_at-masked : (number address size mask : ℕ) → size ≤ 3 → address % 2 ^ size ≡ 0 → mask ≡ modulus (1 * 2 ^ size % 256) - 1
    → bit_and number mask * 2 ^ (8 * lane_of address) % 2 ^ 64 ≡ placed_at number address size
placed_at-masked number address size mask small aligned is =
    ap (λ n. n * 2 ^ (8 * lane_of address) % 2 ^ 64) (and-largest_of_size number size mask small is)
    ∙ mod-eq_of_lt (moved_up-lt (low_part number size) address size (mod-modulus-lt number (2 ^ size)) small aligned)
    ∙ sym (placed_at-shifted number address size small aligned)
