-- No lane before this one tells otherwise.
use Rattle.std.proofs.Common.{◌≡◌, ◌<◌, ℕ, false}
use Rattle.scoreboard.specs.Boards.{differs_in}
use Rattle.scoreboard.specs.InsideBoards.{footprint_of}
use Rattle.scoreboard.proofs.in_flight.tells_otherwise.Given as goal

abbrev pub invariant-loop-lane : goal.invariant-loop-lane
invariant-loop-lane l = (lane : ℕ) → lane < l.lane → differs_in (footprint_of l.footprint) l.k l.due.payload l.beat.payload lane ≡ false
