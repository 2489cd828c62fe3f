-- Each place is among those that are due, or spare.
use Rattle.std.proofs.Common.{◌≡◌, ◌≤◌, ◌+◌, false, length}
use Rattle.std.specs.Vec.{vec_capacity}
use Rattle.scoreboard.specs.Replies.{DuesHaveRoom}
use Rattle.scoreboard.proofs.flights.Flights.clear.Given as goal

abbrev pub invariant-loop-due : goal.invariant-loop-due
invariant-loop-due l =
    (l.self-inside.room ≡ l.fn.self.room) × (l.self-inside.has_begun ≡ false) × (length l.self-inside.begun.footprint.determined ≡ l.self-inside.room)
    × DuesHaveRoom l.self-inside.room l.self-inside.due.items × DuesHaveRoom l.self-inside.room l.self-inside.spare.items
    × (length l.self-inside.due.items + length l.self-inside.spare.items ≡ 256)
    × (256 ≤ vec_capacity l.self-inside.due) × (256 ≤ vec_capacity l.self-inside.spare)

abbrev pub decreases-loop-due : goal.decreases-loop-due
decreases-loop-due l = length l.self-inside.due.items
