-- The bytes of the words before this one are determined.
use Rattle.std.proofs.Common.{◌≡◌, ◌<◌, ◌+◌, ◌*◌, ℕ, true}
use Rattle.bus_words.specs.Lanes.{word_address}
use Rattle.scoreboard.specs.InsideBoards.{determined_in, footprint_of}
use Rattle.scoreboard.specs.Races.{covers}
use Rattle.scoreboard.proofs.footprint.Footprint.is_fixed.Given as goal

abbrev pub invariant-loop-k : goal.invariant-loop-k
invariant-loop-k l =
    (j : ℕ) → j < l.k → (lane : ℕ) → lane < 8 → covers (footprint_of l.self) (word_address l.self.address + 8 * j + lane) ≡ true → determined_in l.self (word_address l.self.address + 8 * j + lane) ≡ true
