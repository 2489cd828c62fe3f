-- The words before this one are determined or not as they have to be.
use Rattle.std.proofs.Common.{◌≡◌, ◌<◌, ◌+◌, ◌*◌, ◌&&◌, not, ℕ, get_or, length}
use Rattle.bus_words.specs.Lanes.{has_lane, word_address}
use Rattle.serial_memory.specs.SerialMemory.{doubts_of}
use Rattle.scoreboard.proofs.footprint.Footprint.determine.Given as goal

abbrev pub invariant-loop-k : goal.invariant-loop-k
invariant-loop-k l =
    (l.self ≡ record l.fn.self { determined = l.self.determined })
    × ((j : ℕ) → j < l.k → (lane : ℕ) → lane < 8 → has_lane (get_or l.self.determined j 0) lane ≡ not (l.fn.self.reads && doubts_of l.marks (word_address l.fn.self.address + 8 * j + lane)))
    × (length l.self.determined ≡ length l.fn.self.determined)
