-- The words before this one have no byte that is determined.
use Rattle.std.proofs.Common.{◌≡◌, ◌<◌, ℕ, get_or, length}
use Rattle.scoreboard.proofs.footprint.Footprint.fail.Given as goal

abbrev pub invariant-loop-k : goal.invariant-loop-k
invariant-loop-k l =
    (l.self ≡ record l.fn.self { determined = l.self.determined }) × ((j : ℕ) → j < l.k → get_or l.self.determined j 0 ≡ 0) × (length l.self.determined ≡ length l.fn.self.determined)
