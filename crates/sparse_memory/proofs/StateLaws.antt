-- What who uses a memory may need to know of it beside the clauses of its calls.
use Rattle.std.proofs.Common.{◌≡◌, ℕ, ◌+◌, ◌/◌, ◌%◌, ◌^◌, ◌<◌, Bool, None, Option, Some, arith}
use Rattle.bus_words.specs.Lanes.{has_lane, lane_byte, word_address}
use Rattle.bus_words.proofs.LaneLaws.{lane_byte-word_of_lanes}
use Rattle.bus_words.proofs.MaskLaws.{has_lane-mask_of}
use Rattle.data_unit.proofs.NumberLaws.{lane_byte-lt, word_of_lanes-lt}
use Rattle.sparse_memory.specs.SparseMemory.{PageState, SparseState, byte_of, bytes_in, flags_in, page_in, word_in}

-- a byte is one
byte_of-lt : (page : Option PageState) (place : ℕ) → byte_of page place < 256
byte_of-lt None place = omega arith
byte_of-lt (Some page) place = lane_byte-lt _ (place % 8)

pub byte-lt : (state : SparseState) (address : ℕ) → bytes_in state address < 256
unfolding bytes_in
byte-lt state address = byte_of-lt (page_in state (address / 4096)) (address % 4096)

-- ---- by words

-- a lane of the word that an address is in
pub lane-word_in : (state : SparseState) (address lane : ℕ) → lane < 8 → lane_byte (word_in (bytes_in state) address) lane ≡ bytes_in state (word_address address + lane)
unfolding word_in
lane-word_in state address lane below =
    lane_byte-word_of_lanes (λ k. bytes_in state (word_address address + k)) lane (record { at = λ k within. byte-lt state (word_address address + k) }) below

pub word_in-lt : (state : SparseState) (address : ℕ) → word_in (bytes_in state) address < 2 ^ 64
unfolding word_in
word_in-lt state address = word_of_lanes-lt (λ k. bytes_in state (word_address address + k)) (record { at = λ k within. byte-lt state (word_address address + k) })

-- a flag of that word
pub lane-flags_in : (flags : ℕ → Bool) (address lane : ℕ) → lane < 8 → has_lane (flags_in flags address) lane ≡ flags (word_address address + lane)
unfolding flags_in
lane-flags_in flags address lane below = has_lane-mask_of (λ k. flags (word_address address + k)) lane below
