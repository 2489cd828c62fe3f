-- Bytes that are looked at together.
use Rattle.std.specs.Prelude.{◌≡◌, ◌≤◌, ◌<◌, ◌+◌, ℕ, Bool, true, ◌==◌, List, if◌then◌else◌, slice_index_or}
use Rattle.std.specs.Int.{w64, trailing_zeros}

-- the first `run` bytes of the n from a place on pass a test
abbrev pub PassesIn : (ℕ → Bool) → List ℕ → ℕ → ℕ → ℕ → Type 0
PassesIn test bytes at n run = (run ≤ n) × ((k : ℕ) → at ≤ k → k < at + run → test (slice_index_or bytes k 0) ≡ true)

-- the place of the lowest bit that is set, or n
abbrev pub first_set : ℕ → ℕ → ℕ
first_set mask n = if mask == 0 then n else trailing_zeros w64 mask
