-- Numbers and the lists of their bytes, the lowest first.
use Rattle.std.proofs.Common.{◌≡◌, ℕ, zero, suc, ◌+◌, ◌*◌, ◌%◌, ◌^◌, ◌<◌, ◌≤◌, List, get_or, length, refl, ◌∙◌, ap, arith, inl, inr, lit<}
use Rattle.std.proofs.Math.Pow.{pow_mono, pow_pos}
use Rattle.std.proofs.lemmas.Bool.{cases_lt}
use Rattle.std.proofs.lemmas.List.{get_or_past}
use Rattle.std.proofs.lemmas.List.Elements.{All-get_or, All-from_get_or}
use Rattle.std.proofs.lemmas.Grind.{same_number_lists}
use Rattle.std.specs.List.{All}
use Rattle.std.specs.Int.{bytes_low_first, byte_at}
use Rattle.bus_words.specs.Lanes.{lane_byte, word_of_lanes}
use Rattle.bus_words.proofs.LaneLaws.{GivesBytes, lane_byte-word_of_lanes}
use Rattle.data_unit.specs.Atomics.{modulus}
use Rattle.data_unit.specs.Words.{value, bytes_of}
use Rattle.data_unit.proofs.ByteLaws.{lane_byte-shr}

-- a lane holds a byte
pub lane_byte-lt : (word lane : ℕ) → lane_byte word lane < 256
lane_byte-lt word lane = rw (lane_byte-shr word lane) (omega arith)

-- a word has 64 bits
pub word_of_lanes-lt : (byte : ℕ → ℕ) → GivesBytes byte → word_of_lanes byte < 2 ^ 64
word_of_lanes-lt byte bytes =
    omega (arith, bytes.at 0 (lit< tt), bytes.at 1 (lit< tt), bytes.at 2 (lit< tt), bytes.at 3 (lit< tt), bytes.at 4 (lit< tt), bytes.at 5 (lit< tt), bytes.at 6 (lit< tt), bytes.at 7 (lit< tt))

-- at most eight bytes make at most a word
pub modulus-le : (count : ℕ) → count ≤ 8 → modulus count ≤ 2 ^ 64
modulus-le count most = pow_mono {i = 8 * count} {j = 64} (omega arith)

pub mod-modulus-lt : (number count : ℕ) → number % modulus count < modulus count
mod-modulus-lt number count = omega (arith, pow_pos (8 * count))

-- what a list of bytes holds at each place, and past its end
get_or-lt : (bytes : List ℕ) (k : ℕ) → All (λ b. b < 256) bytes → get_or bytes k 0 < 256
get_or-lt bytes k small =
    elim (cases_lt k (length bytes)) [ inl below ↦ All-get_or (λ b. b < 256) bytes k 0 below small | inr past ↦ omega (arith, get_or_past bytes k 0 past) ]

-- each byte of the number of at most eight bytes
pub lane_byte-value : (bytes : List ℕ) (k : ℕ) → All (λ b. b < 256) bytes → k < 8 → lane_byte (value bytes) k ≡ get_or bytes k 0
lane_byte-value bytes k small below = lane_byte-word_of_lanes (λ i. get_or bytes i 0) k (record { at = λ i within. get_or-lt bytes i small }) below

pub value-lt : (bytes : List ℕ) → All (λ b. b < 256) bytes → value bytes < 2 ^ 64
value-lt bytes small = word_of_lanes-lt (λ i. get_or bytes i 0) (record { at = λ i within. get_or-lt bytes i small })

-- the bytes of a number from byte i on
get_or-bytes_low_first : (i count number k : ℕ) → k < count → get_or (bytes_low_first i count number) k 0 ≡ byte_at (i + k) number
get_or-bytes_low_first i zero number k below = absurd (omega arith)
get_or-bytes_low_first i (suc count) number zero below = ap (λ j. byte_at j number) (omega arith)
get_or-bytes_low_first i (suc count) number (suc k) below =
    let next : suc i + k ≡ i + suc k = omega arith in
    get_or-bytes_low_first (suc i) count number k (omega arith) ∙ ap (λ j. byte_at j number) next

length-bytes_low_first : (i count number : ℕ) → length (bytes_low_first i count number) ≡ count
length-bytes_low_first i zero number = refl
length-bytes_low_first i (suc count) number = ap suc (length-bytes_low_first (suc i) count number)

pub length-bytes_of : (count number : ℕ) → length (bytes_of count number) ≡ count
length-bytes_of count number = length-bytes_low_first 0 count number

pub get_or-bytes_of : (count number k : ℕ) → k < count → get_or (bytes_of count number) k 0 ≡ byte_at k number
get_or-bytes_of count number k below = get_or-bytes_low_first 0 count number k below ∙ ap (λ j. byte_at j number) (omega arith)

pub All-bytes_of : (count number : ℕ) → All (λ b. b < 256) (bytes_of count number)
All-bytes_of count number =
    All-from_get_or (λ b. b < 256) (bytes_of count number) 0
    (λ k below. omega (arith, get_or-bytes_of count number k (omega (arith, length-bytes_of count number)), lane_byte-lt number k))

-- the bytes of the number of at most eight bytes
pub bytes_of-value : (bytes : List ℕ) → All (λ b. b < 256) bytes → length bytes ≤ 8 → bytes_of (length bytes) (value bytes) ≡ bytes
bytes_of-value bytes small most =
    same_number_lists (bytes_of (length bytes) (value bytes)) bytes (length-bytes_of (length bytes) (value bytes))
    (λ k below.
    let inside : k < length bytes = omega (arith, length-bytes_of (length bytes) (value bytes)) in
    get_or-bytes_of (length bytes) (value bytes) k inside ∙ lane_byte-value bytes k small (omega arith))
