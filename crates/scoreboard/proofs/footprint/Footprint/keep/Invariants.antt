-- The words before this one are determined or not as they have to be, and those from it on as they were.
use Rattle.std.proofs.Common.{◌≡◌, ◌<◌, ◌≤◌, ◌+◌, ◌*◌, ◌&&◌, ℕ, get_or, length}
use Rattle.bus_words.specs.Lanes.{has_lane, word_address}
use Rattle.scoreboard.specs.InsideBoards.{determined_in}
use Rattle.scoreboard.proofs.footprint.Footprint.keep.Given as goal

abbrev pub invariant-loop-k : goal.invariant-loop-k
invariant-loop-k l =
    (l.self ≡ record l.fn.self { determined = l.self.determined })
    × ((j : ℕ) → j < l.k → (lane : ℕ) → lane < 8 → has_lane (get_or l.self.determined j 0) lane
    ≡ (has_lane (get_or l.fn.self.determined j 0) lane && determined_in l.coming (word_address l.fn.self.address + 8 * j + lane)))
    × ((j : ℕ) → l.k ≤ j → get_or l.self.determined j 0 ≡ get_or l.fn.self.determined j 0)
    × (length l.self.determined ≡ length l.fn.self.determined)
