-- No lane before this one differs.
use Rattle.std.proofs.Common.{◌≡◌, ◌<◌, ℕ, false}
use Rattle.bus_words.specs.Lanes.{has_lane}
use Rattle.scoreboard.specs.InTurn.{differs_known}
use Rattle.scoreboard.proofs.in_turn.agrees_where_known.Given as goal

abbrev pub invariant-loop-lane : goal.invariant-loop-lane
invariant-loop-lane l = (lane : ℕ) → lane < l.lane → differs_known (has_lane l.unknown) l.due.payload l.beat.payload lane ≡ false
