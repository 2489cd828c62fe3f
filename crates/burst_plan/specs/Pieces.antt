-- How a range of bytes goes as bursts on an AXI4 bus (AXI4, A3.4.1, burst length, burst size and the 4 KB boundary).
-- This project's profile: the transfers are as wide as the range and the bus allow, and the bursts are cut at the multiples of the bus's bytes
-- times the most transfers of a burst.
use Rattle.std.specs.Prelude.{ℕ, ◌+◌, ◌-◌, ◌*◌, ◌/◌, ◌%◌, ◌^◌, ◌≡◌, ◌≤◌, ◌==◌, ◌⊎◌, Bool, List, map, max, min, if◌then◌else◌, flat_map, All, IsTrue}
use Rattle.std.specs.List.{range_with_len, list_any}
use Rattle.axi_beats.specs.Transfers.{IsBusWidth, transfer_bytes}
use Rattle.axi_beats.specs.Bursts.{is_legal_address}
use Rattle.burst_plan.specs.declared.Piece.{Piece}

-- 2^size bytes from an address on, to go over a bus of so many bytes in bursts of at most so many transfers
pub record PlannedRange : Type 0 where
  pub bus_bytes : ℕ
  pub max_len : ℕ
  pub address : ℕ
  pub size : ℕ

-- whether a burst may have so many transfers at most: a power of two from 1 to 256
abbrev pub is_max_len : ℕ → Bool
is_max_len n = list_any (λ k. n == 2 ^ k) (range_with_len 0 9)

-- what has a plan: 4,096 bytes at most, at a multiple of their number
pub record IsPlannable (range : PlannedRange) : Type 0 where
  pub bus : IsBusWidth range.bus_bytes
  pub max_len : IsTrue (is_max_len range.max_len)
  pub size : range.size ≤ 12
  pub aligned : range.address % 2 ^ range.size ≡ 0

-- the address after the last byte
abbrev pub range_end : PlannedRange → ℕ
range_end range = range.address + 2 ^ range.size

-- the size of the bus's widest transfer
abbrev pub widest_size : ℕ → ℕ
widest_size bus_bytes = if bus_bytes == 8 then 3 else 2

-- the size of the transfers: that of the range, where one transfer can carry it, else the widest
abbrev pub beat_size : PlannedRange → ℕ
beat_size range = min range.size (widest_size range.bus_bytes)

-- bursts are cut at the multiples of this number
abbrev pub cut_bytes : PlannedRange → ℕ
cut_bytes range = range.bus_bytes * range.max_len

-- where the part of the range between cut k and the next begins, and the address after it
abbrev pub part_start : PlannedRange → ℕ → ℕ
part_start range k = max range.address (k * cut_bytes range)

abbrev pub part_end : PlannedRange → ℕ → ℕ
part_end range k = min (range_end range) ((k + 1) * cut_bytes range)

-- that part as a burst
abbrev pub piece_from_cut : PlannedRange → ℕ → Piece
piece_from_cut range k =
    record {
      address = part_start range k;
      len = (part_end range k - part_start range k) / transfer_bytes (beat_size range) - 1;
      size = beat_size range;
    }

-- the cut below the first byte, and that below the last one
abbrev pub first_cut : PlannedRange → ℕ
first_cut range = range.address / cut_bytes range

abbrev pub last_cut : PlannedRange → ℕ
last_cut range = (range_end range - 1) / cut_bytes range

-- the pieces of a range: its parts between cuts, by rising address
abbrev pub pieces : PlannedRange → List Piece
pieces range = map (piece_from_cut range) (range_with_len (first_cut range) (last_cut range + 1 - first_cut range))

-- ---- what a plan is, whatever the way to it

-- the bytes of a piece
abbrev pub piece_bytes : Piece → ℕ
piece_bytes piece = (piece.len + 1) * transfer_bytes piece.size

-- the address after a piece's last byte
abbrev pub piece_end : Piece → ℕ
piece_end piece = piece.address + piece_bytes piece

-- the addresses of a piece's bytes
abbrev pub piece_addresses : Piece → List ℕ
piece_addresses piece = range_with_len piece.address (piece_bytes piece)

-- a piece doesn't cross a multiple of so many bytes
abbrev pub StaysBetween : ℕ → Piece → Type 0
StaysBetween step piece = piece.address / step ≡ (piece_end piece - 1) / step

-- a piece is a whole part of a range: it goes from a cut, or the first byte, to the next cut, or the last byte, and crosses none; its transfers
-- are as wide as they can be, and it is a legal INCR burst
pub record IsPartOf (range : PlannedRange) (piece : Piece) : Type 0 where
  pub uncut : StaysBetween (cut_bytes range) piece
  pub begins : (piece.address ≡ range.address) ⊎ (piece.address % cut_bytes range ≡ 0)
  pub ends : (piece_end piece ≡ range_end range) ⊎ (piece_end piece % cut_bytes range ≡ 0)
  pub wide : transfer_bytes piece.size ≡ min (2 ^ range.size) range.bus_bytes
  pub legal : IsTrue (is_legal_address range.bus_bytes piece.address piece.len piece.size 1)

-- whole parts that cover the range, each byte once and in order
pub record IsPlan (range : PlannedRange) (parts : List Piece) : Type 0 where
  pub covers : flat_map piece_addresses parts ≡ range_with_len range.address (2 ^ range.size)
  pub whole : All (IsPartOf range) parts
