-- Which transfer of a plan holds the byte at an address.
use Rattle.std.specs.Prelude.{ℕ, ◌+◌, ◌-◌, ◌*◌, ◌/◌, ◌%◌, ◌≡◌, ◌<◌, ◌≤◌, ◌^◌, true, min, Some, length, slice_get}
use Rattle.axi_beats.specs.Transfers.{covers_lane, lane_address, transfer_bytes, transfer_has}
use Rattle.burst_plan.specs.Pieces.{PlannedRange, IsPlannable, beat_size, cut_bytes, pieces, range_end}
use Rattle.burst_plan.specs.declared.Piece.{Piece}

-- the bytes of a transfer
abbrev pub beat_bytes : PlannedRange → ℕ
beat_bytes range = transfer_bytes (beat_size range)

-- the bytes of a burst
abbrev pub burst_bytes : PlannedRange → ℕ
burst_bytes range = min (2 ^ range.size) (cut_bytes range)

-- the transfers of a burst
abbrev pub burst_beats : PlannedRange → ℕ
burst_beats range = burst_bytes range / beat_bytes range

-- what is kept of a range that has a plan: how many bursts there are, the transfers of each, less one, and the size of a transfer
pub record IsReckoned (range : PlannedRange) (count len size : ℕ) : Type 0 where
  pub plannable : IsPlannable range
  pub bursts : count ≡ length (pieces range)
  pub transfers : len ≡ burst_beats range - 1
  pub width : size ≡ beat_size range

-- the transfer that holds the byte at an address, counted from 0 through all bursts
abbrev pub beat_of : PlannedRange → ℕ → ℕ
beat_of range x = (x - range.address) / beat_bytes range

-- the burst that holds it, from 0, and its transfer that does, from 1
abbrev pub piece_of : PlannedRange → ℕ → ℕ
piece_of range x = (x - range.address) / burst_bytes range

abbrev pub transfer_of : PlannedRange → ℕ → ℕ
transfer_of range x = (x - range.address) % burst_bytes range / beat_bytes range + 1

-- a range has the byte at x
pub record HasAddress (range : PlannedRange) (x : ℕ) : Type 0 where
  pub first : range.address ≤ x
  pub last : x < range_end range

-- transfer n, from 1, of burst k, from 0, holds the byte at an address in the address's own lane
pub record HoldsByte (range : PlannedRange) (k n x : ℕ) : Type 0 where
  pub piece : Piece
  pub listed : slice_get (pieces range) k ≡ Some piece
  pub first : 1 ≤ n
  pub last : n ≤ piece.len + 1
  pub holds : transfer_has piece.address piece.size n x ≡ true
  pub lane : covers_lane range.bus_bytes piece.address piece.size n (x % range.bus_bytes) ≡ true
  pub address : lane_address range.bus_bytes piece.address piece.size n (x % range.bus_bytes) ≡ x

-- each byte of the range is held by one transfer, and a transfer holds no other bytes; counted through all bursts, the transfers are those of
-- the range by their bytes
pub record HoldsEachByteOnce (range : PlannedRange) : Type 0 where
  pub held : (x : ℕ) → HasAddress range x → HoldsByte range (piece_of range x) (transfer_of range x) x
  pub back :
      (k n x : ℕ) (piece : Piece) → slice_get (pieces range) k ≡ Some piece → 1 ≤ n → n ≤ piece.len + 1 → transfer_has piece.address piece.size n x ≡ true
      → HasAddress range x × (piece_of range x ≡ k) × (transfer_of range x ≡ n)
  pub counted : (x : ℕ) → beat_of range x ≡ piece_of range x * burst_beats range + (transfer_of range x - 1)
