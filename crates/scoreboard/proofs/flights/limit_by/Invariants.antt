-- It has given way to those so far.
use Rattle.std.proofs.Common.{◌≡◌, length, map, take}
use Rattle.scoreboard.specs.InsideBoards.{footprint_of}
use Rattle.scoreboard.specs.Races.{beside_all}
use Rattle.scoreboard.specs.Replies.{due_footprint}
use Rattle.scoreboard.proofs.flights.limit_by.Given as goal

abbrev pub invariant-loop-one : goal.invariant-loop-one
invariant-loop-one l =
    (footprint_of l.joined.footprint ≡ beside_all (footprint_of l.fn.joined.footprint) (map due_footprint (take l.one-index l.due)))
    × (length l.joined.footprint.determined ≡ length l.fn.joined.footprint.determined)
