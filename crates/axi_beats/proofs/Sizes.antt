-- Transfers that fit a bus of 4 or 8 bytes have a size of at most 3.
use Rattle.std.proofs.Common.{◌≡◌, ℕ, ◌%◌, ◌^◌, ◌<◌, ◌≤◌, true, arith, inl, inr}
use Rattle.std.proofs.Math.Pow.{pow_mono}
use Rattle.std.proofs.lemmas.Bool.{cases_lt, leb-true}
use Rattle.axi_beats.specs.Transfers.{IsBusWidth, fits_bus}

pub bus_width-le : (bus_bytes : ℕ) → IsBusWidth bus_bytes → bus_bytes ≤ 8
bus_width-le bus_bytes width = elim width [ inl four ↦ omega arith | inr eight ↦ omega arith ]

pub size_within : (bus_bytes size : ℕ) → IsBusWidth bus_bytes → fits_bus bus_bytes size ≡ true → size ≤ 3
size_within bus_bytes size width fits =
    elim (cases_lt size 4) [
      | inl small ↦ omega arith
      | inr large ↦ absurd (omega (arith, pow_mono {i = 4} {j = size} large, leb-true (2 ^ size) bus_bytes fits, bus_width-le bus_bytes width))
    ]

-- a lane of the bus is a lane of a word
pub lane_below : (bus_bytes x : ℕ) → IsBusWidth bus_bytes → x % bus_bytes < 8
lane_below bus_bytes x width = elim width [ inl four ↦ rw four (omega arith) | inr eight ↦ rw eight (omega arith) ]
