-- Byte lanes and ranges of TileLink (TileLink 1.8, byte lanes and byte masks): the byte at address x travels in lane x mod 8, and a
-- message of a size is about the 2^size bytes from its address on.
use Rattle.std.specs.Prelude.{ℕ, ◌+◌, ◌%◌, ◌^◌, ◌==◌, ◌&&◌, nat_le, nat_lt, Bool}
use Rattle.std.specs.List.{range_with_len, list_any}

-- the lane of an address
abbrev pub lane_of : ℕ → ℕ
lane_of address = address % 8

-- whether 2^size bytes from an address on have a byte in this lane
abbrev pub in_lanes : ℕ → ℕ → ℕ → Bool
in_lanes address size lane = list_any (λ x. lane_of x == lane) (range_with_len address (2 ^ size))

-- whether an address is one of the 2^size from an address on
abbrev pub in_range : ℕ → ℕ → ℕ → Bool
in_range address size x = nat_le address x && nat_lt x (address + 2 ^ size)
