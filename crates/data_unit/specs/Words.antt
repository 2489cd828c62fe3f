-- Masks, words and numbers by their bytes (TileLink 1.8, byte lanes and byte masks).
use Rattle.std.specs.Prelude.{ℕ, ◌+◌, ◌-◌, ◌^◌, List, map, if◌then◌else◌}
use Rattle.std.specs.List.{range_with_len}
use Rattle.std.specs.Int.{from_le_bytes, byte_at, bytes_low_first, w64}
use Rattle.bus_words.specs.Lanes.{mask_of, has_lane, lane_byte, word_of_lanes}
use Rattle.tl_messages.specs.Lanes.{in_lanes, lane_of}

-- the lanes of 2^size bytes from an address on, as a mask; it wraps where an unaligned range passes lane 7
abbrev pub full_mask : ℕ → ℕ → ℕ
full_mask address size = mask_of (in_lanes address size)

-- the little-endian number of at most eight bytes
abbrev pub value : List ℕ → ℕ
value bytes = from_le_bytes w64 bytes

-- the lowest `count` bytes of a number, the lowest first
abbrev pub bytes_of : ℕ → ℕ → List ℕ
bytes_of count number = bytes_low_first 0 count number

-- the new word's bytes in the strobed lanes, and the old word's elsewhere
abbrev pub merged : ℕ → ℕ → ℕ → ℕ
merged old new strobes = word_of_lanes (λ lane. if has_lane strobes lane then lane_byte new lane else lane_byte old lane)

-- the number that 2^size bytes at an address hold in their lanes
abbrev pub operand_in : ℕ → ℕ → ℕ → ℕ
operand_in word address size = value (map (λ i. lane_byte word (lane_of (address + i))) (range_with_len 0 (2 ^ size)))

-- the word that has a number of 2^size bytes in the lanes of its aligned address, and zero elsewhere
abbrev pub placed_at : ℕ → ℕ → ℕ → ℕ
placed_at number address size = word_of_lanes (λ lane. if in_lanes address size lane then byte_at (lane - lane_of address) number else 0)
