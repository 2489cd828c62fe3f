-- Bytes in the lanes of a word, and sets of lanes. A word has 64 bits and eight lanes; lane 0 is its least significant byte.
-- A set of lanes has 8 bits, bit k for lane k: TileLink calls it a mask, AXI4 calls it strobes.
use Rattle.std.specs.Prelude.{ℕ, ◌-◌, ◌*◌, ◌/◌, ◌^◌, ◌==◌, Bool, ◌&&◌, List, map, Option, None, if◌then◌else◌, nat_le, slice_get, unwrap_or}
use Rattle.std.specs.List.{range_with_len}
use Rattle.std.specs.Option.{option_flatten}
use Rattle.std.specs.Int.{byte_at, bit_at, sum_through, from_le_bytes, w64}

-- the byte that a word holds in a lane
abbrev pub lane_byte : ℕ → ℕ → ℕ
lane_byte word lane = byte_at lane word

-- whether a mask, or strobes, have this lane
abbrev pub has_lane : ℕ → ℕ → Bool
has_lane mask lane = bit_at mask lane == 1

-- whether a number, as a lane, is neither below the lowest nor above the highest of some numbers
abbrev pub is_between : ℕ → ℕ → ℕ → Bool
is_between lowest highest lane = nat_le lowest lane && nat_le lane highest

-- the mask, or the strobes, of just the lanes that pass a test
abbrev pub mask_of : (ℕ → Bool) → ℕ
mask_of test = sum_through (λ lane. if test lane then 2 ^ lane else 0) 7

-- the word whose byte in each lane is given by a function
abbrev pub word_of_lanes : (ℕ → ℕ) → ℕ
word_of_lanes byte = from_le_bytes w64 (map byte (range_with_len 0 8))

-- the word that has the given bytes in their lanes, and zero in a lane whose byte isn't given
abbrev pub payload_of : (ℕ → Option ℕ) → ℕ
payload_of byte = word_of_lanes (λ lane. unwrap_or (byte lane) 0)

-- the address of the first byte of the aligned eight-byte word that holds an address
abbrev pub word_address : ℕ → ℕ
word_address x = x / 8 * 8

-- the byte at address x of a list of bytes that begins at `start`; none outside the list, and none where it isn't given
abbrev pub given_at : List (Option ℕ) → ℕ → ℕ → Option ℕ
given_at bytes start x = if nat_le start x then option_flatten (slice_get bytes (x - start)) else None
