-- The lanes of words: a word built from lanes has in each lane what was given there, and a word is known by its lanes.
use Rattle.std.proofs.Common.{◌≡◌, ℕ, zero, suc, ◌^◌, ◌<◌, List, map, get_or, Option, refl, sym, ◌∙◌, ap, lit<}
use Rattle.std.proofs.lemmas.Nat.{le_bytes_8, from_le_bytes-to_le_bytes_8}
use Rattle.std.specs.Prelude.{unwrap_or}
use Rattle.std.specs.List.{range_with_len}
use Rattle.std.specs.Int.{to_le_bytes, w64}
use Rattle.bus_words.specs.Lanes.{lane_byte, word_of_lanes, payload_of}
use Rattle.bus_words.proofs.BelowEight.{below_eight}

-- a byte for each of the eight lanes
pub record GivesBytes (byte : ℕ → ℕ) : Type 0 where
  pub at : (lane : ℕ) → lane < 8 → byte lane < 256

-- the same, where a byte may be missing
pub record MayGiveBytes (byte : ℕ → Option ℕ) : Type 0 where
  pub at : (lane : ℕ) → lane < 8 → unwrap_or (byte lane) 0 < 256

all_lanes : (ℕ → ℕ) → List ℕ
all_lanes byte = map byte (range_with_len 0 8)

each_is_byte : (byte : ℕ → ℕ) → GivesBytes byte → (i : ℕ) → get_or (all_lanes byte) i 0 < 256
unfolding all_lanes
each_is_byte byte bytes zero = bytes.at 0 (lit< tt)
each_is_byte byte bytes (suc zero) = bytes.at 1 (lit< tt)
each_is_byte byte bytes (suc (suc zero)) = bytes.at 2 (lit< tt)
each_is_byte byte bytes (suc (suc (suc zero))) = bytes.at 3 (lit< tt)
each_is_byte byte bytes (suc (suc (suc (suc zero)))) = bytes.at 4 (lit< tt)
each_is_byte byte bytes (suc (suc (suc (suc (suc zero))))) = bytes.at 5 (lit< tt)
each_is_byte byte bytes (suc (suc (suc (suc (suc (suc zero)))))) = bytes.at 6 (lit< tt)
each_is_byte byte bytes (suc (suc (suc (suc (suc (suc (suc zero))))))) = bytes.at 7 (lit< tt)
each_is_byte byte bytes (suc (suc (suc (suc (suc (suc (suc (suc i)))))))) = lit< tt

-- each lane of a word built from lanes is what was given there
pub lane_byte-word_of_lanes : (byte : ℕ → ℕ) (lane : ℕ) → GivesBytes byte → lane < 8 → lane_byte (word_of_lanes byte) lane ≡ byte lane
unfolding all_lanes
lane_byte-word_of_lanes byte lane bytes below =
    below_eight (λ k. lane_byte (word_of_lanes byte) k ≡ byte k) (at 0) (at 1) (at 2) (at 3) (at 4) (at 5) (at 6) (at 7) lane below
  where
    same : to_le_bytes w64 (word_of_lanes byte) ≡ all_lanes byte
    same = le_bytes_8 (all_lanes byte) (word_of_lanes byte) refl (each_is_byte byte bytes) refl

    at : (k : ℕ) → get_or (to_le_bytes w64 (word_of_lanes byte)) k 0 ≡ get_or (all_lanes byte) k 0
    at k = ap (λ bytes. get_or bytes k 0) same

-- each lane of a payload is the byte that was given there, or zero
pub lane_byte-payload_of : (byte : ℕ → Option ℕ) (lane : ℕ) → MayGiveBytes byte → lane < 8 → lane_byte (payload_of byte) lane ≡ unwrap_or (byte lane) 0
lane_byte-payload_of byte lane bytes below = lane_byte-word_of_lanes (λ k. unwrap_or (byte k) 0) lane (record { at = bytes.at }) below

-- a word is the word of its own lanes
pub word_of_lanes-lane_byte : (word : ℕ) → word < 2 ^ 64 → word_of_lanes (lane_byte word) ≡ word
word_of_lanes-lane_byte word fits = from_le_bytes-to_le_bytes_8 word fits

-- what a word of lanes is, is known from its eight lanes
pub word_of_lanes-same : (f g : ℕ → ℕ) → ((lane : ℕ) → lane < 8 → f lane ≡ g lane) → word_of_lanes f ≡ word_of_lanes g
word_of_lanes-same f g same = cc (same 0 (lit< tt), same 1 (lit< tt), same 2 (lit< tt), same 3 (lit< tt), same 4 (lit< tt), same 5 (lit< tt), same 6 (lit< tt), same 7 (lit< tt))

-- two words with the same byte in each lane are one
pub same_lanes : (v w : ℕ) → v < 2 ^ 64 → w < 2 ^ 64 → ((lane : ℕ) → lane < 8 → lane_byte v lane ≡ lane_byte w lane) → v ≡ w
same_lanes v w small fits same = sym (word_of_lanes-lane_byte v small) ∙ word_of_lanes-same (lane_byte v) (lane_byte w) same ∙ word_of_lanes-lane_byte w fits
