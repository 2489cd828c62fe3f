-- A message of size 12 or less has at most 512 beats.
use Rattle.std.proofs.Common.{ℕ, ◌≤◌, Bool, true, false, arith}
use Rattle.std.proofs.Math.Pow.{pow_mono}
use Rattle.tl_messages.specs.Operations.{beats_of}

pub beats_of-le : (size : ℕ) (has_data : Bool) → size ≤ 12 → beats_of size has_data ≤ 512
beats_of-le size true small = omega (arith, pow_mono {i = size} {j = 12} small)
beats_of-le size false small = omega arith
