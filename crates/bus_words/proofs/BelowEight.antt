-- What holds of each number from 0 to 7 holds of every number below eight.
use Rattle.std.proofs.Common.{ℕ, zero, suc, ◌<◌, arith}

pub below_eight : (P : ℕ → Type 0) → P 0 → P 1 → P 2 → P 3 → P 4 → P 5 → P 6 → P 7 → (k : ℕ) → k < 8 → P k
below_eight P a b c d e f g h zero below = a
below_eight P a b c d e f g h (suc zero) below = b
below_eight P a b c d e f g h (suc (suc zero)) below = c
below_eight P a b c d e f g h (suc (suc (suc zero))) below = d
below_eight P a b c d e f g h (suc (suc (suc (suc zero)))) below = e
below_eight P a b c d e f g h (suc (suc (suc (suc (suc zero))))) below = f
below_eight P a b c d e f g h (suc (suc (suc (suc (suc (suc zero)))))) below = g
below_eight P a b c d e f g h (suc (suc (suc (suc (suc (suc (suc zero))))))) below = h
below_eight P a b c d e f g h (suc (suc (suc (suc (suc (suc (suc (suc k)))))))) below = absurd (omega arith)
