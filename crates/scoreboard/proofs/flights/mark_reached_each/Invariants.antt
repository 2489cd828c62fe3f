-- Those of the requests so far are marked.
use Rattle.std.proofs.Common.{◌≡◌, map, take}
use Rattle.serial_memory.specs.SerialMemory.{doubts_of}
use Rattle.scoreboard.specs.FailedBursts.{after_reached}
use Rattle.scoreboard.specs.InsideBoards.{IsMarkedAlone}
use Rattle.scoreboard.specs.Replies.{due_footprint}
use Rattle.scoreboard.proofs.flights.mark_reached_each.Given as goal

abbrev pub invariant-loop-one : goal.invariant-loop-one
invariant-loop-one l =
    IsMarkedAlone l.fn.marks l.marks
    × (doubts_of l.marks ≡ after_reached (doubts_of l.fn.marks) l.reach (map due_footprint (take l.one-index l.due)))
