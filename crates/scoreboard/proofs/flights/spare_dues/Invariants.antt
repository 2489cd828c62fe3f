-- So many places are made.
use Rattle.std.proofs.Common.{◌≡◌, ◌≤◌, length}
use Rattle.std.specs.Vec.{vec_capacity}
use Rattle.scoreboard.specs.Replies.{DuesHaveRoom}
use Rattle.scoreboard.proofs.flights.spare_dues.Given as goal

abbrev pub invariant-loop : goal.invariant-loop
invariant-loop l = (length l.made.items ≡ l.counter) × DuesHaveRoom l.room l.made.items × (l.places ≤ vec_capacity l.made)
