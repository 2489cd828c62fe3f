-- The bursts of a plan's pieces (AXI4, A3.4.3, write strobes; this project's profile: INCR, and zero in lanes without a strobe).
use Rattle.std.specs.Prelude.{ℕ, ◌+◌, ◌%◌, ◌≡◌, ◌<◌, ◌≤◌, ◌==◌, true, false, List, map, Option, Some, None, is_some, unwrap_or, if◌then◌else◌, slice_get, All}
use Rattle.std.specs.List.{range_with_len}
use Rattle.bus_words.specs.Lanes.{has_lane, lane_byte, mask_of, payload_of, given_at}
use Rattle.tl_messages.specs.Lanes.{lane_of}
use Rattle.tl_messages.specs.Requests.{given_in}
use Rattle.tl_messages.specs.declared.MaskedWord.{MaskedWord}
use Rattle.axi_beats.specs.Bursts.{Burst, WriteBurst, ReadBurst, IsLegal}
use Rattle.axi_beats.specs.Transfers.{covers_lane, lane_address, transfer_has}
use Rattle.axi_beats.specs.declared.WBeat.{WBeat}
use Rattle.burst_plan.specs.Pieces.{PlannedRange, pieces}
use Rattle.burst_plan.specs.declared.Piece.{Piece}

-- the byte that transfer n of a piece writes from a lane, by the byte to be written at each address; none where the transfer doesn't cover the
-- lane, and none where no byte is given
abbrev pub byte_to_write : ℕ → (ℕ → Option ℕ) → Piece → ℕ → ℕ → Option ℕ
byte_to_write bus_bytes given piece n lane =
    if covers_lane bus_bytes piece.address piece.size n lane then given (lane_address bus_bytes piece.address piece.size n lane) else None

-- the W beat of transfer n: a strobe in each lane that has a byte to write, and that byte
abbrev pub w_beat : ℕ → (ℕ → Option ℕ) → Piece → ℕ → WBeat
w_beat bus_bytes given piece n =
    record {
      payload = payload_of (byte_to_write bus_bytes given piece n);
      strobes = mask_of (λ lane. is_some (byte_to_write bus_bytes given piece n lane));
      last = n == piece.len + 1;
    }

-- the byte at an address that a word of eight bytes gives by its mask, where it holds the address
abbrev pub given_by_word : MaskedWord → ℕ → Option ℕ
given_by_word word x = given_in (lane_of x) word

-- a piece as a write of the given bytes of a list that begins at `start`
abbrev pub write_of : ℕ → ℕ → List (Option ℕ) → ℕ → Piece → Burst
write_of bus_bytes id bytes start piece =
    WriteBurst (record { id = id; address = piece.address; len = piece.len; size = piece.size; burst = 1 })
    (map (w_beat bus_bytes (given_at bytes start) piece) (range_with_len 1 (piece.len + 1)))

-- a piece as a read
abbrev pub read_of : ℕ → Piece → Burst
read_of id piece = ReadBurst (record { id = id; address = piece.address; len = piece.len; size = piece.size; burst = 1 })

-- ---- what the bursts of a plan do

-- a beat of transfer n of a piece puts just the given bytes: at each address of the transfer it has a strobe exactly where a byte is given, and
-- then that byte, in the address's lane; lanes outside the transfer have no strobe, and lanes without a strobe are zero
pub record PutsBytes (bus_bytes : ℕ) (given : ℕ → Option ℕ) (piece : Piece) (n : ℕ) (beat : WBeat) : Type 0 where
  pub strobes : (x : ℕ) → transfer_has piece.address piece.size n x ≡ true → has_lane beat.strobes (x % bus_bytes) ≡ is_some (given x)
  pub payload : (x byte : ℕ) → transfer_has piece.address piece.size n x ≡ true → given x ≡ Some byte → lane_byte beat.payload (x % bus_bytes) ≡ byte
  pub outside : (lane : ℕ) → lane < 8 → covers_lane bus_bytes piece.address piece.size n lane ≡ false → has_lane beat.strobes lane ≡ false
  pub zero : (lane : ℕ) → lane < 8 → has_lane beat.strobes lane ≡ false → lane_byte beat.payload lane ≡ 0

-- bytes of which each that is given is below 256
abbrev pub AreBytes : List (Option ℕ) → Type 0
AreBytes bytes = All (λ byte. unwrap_or byte 0 < 256) bytes

-- the writes of a range's pieces are legal, and each beat puts the given bytes of its transfer at their addresses
pub record PutsGivenBytes (range : PlannedRange) (bytes : List (Option ℕ)) : Type 0 where
  pub legal :
      (k id : ℕ) (piece : Piece) → slice_get (pieces range) k ≡ Some piece → IsLegal range.bus_bytes (write_of range.bus_bytes id bytes range.address piece)
  pub puts :
      (k n : ℕ) (piece : Piece) → slice_get (pieces range) k ≡ Some piece → 1 ≤ n → n ≤ piece.len + 1
      → PutsBytes range.bus_bytes (given_at bytes range.address) piece n (w_beat range.bus_bytes (given_at bytes range.address) piece n)

-- the reads of a range's pieces are legal
abbrev pub ReadsAreLegal : PlannedRange → Type 0
ReadsAreLegal range = (k id : ℕ) (piece : Piece) → slice_get (pieces range) k ≡ Some piece → IsLegal range.bus_bytes (read_of id piece)
