-- Those of the requests so far are marked.
use Rattle.std.proofs.Common.{◌≡◌, map, take}
use Rattle.serial_memory.specs.SerialMemory.{doubts_of}
use Rattle.scoreboard.specs.InsideBoards.{footprint_of, IsMarkedAlone}
use Rattle.scoreboard.specs.Races.{beside_dependent}
use Rattle.scoreboard.specs.Replies.{due_footprint}
use Rattle.scoreboard.proofs.flights.mark_each.Given as goal

abbrev pub invariant-loop-one : goal.invariant-loop-one
invariant-loop-one l =
    IsMarkedAlone l.fn.marks l.marks
    × (doubts_of l.marks ≡ beside_dependent (doubts_of l.fn.marks) (footprint_of l.other) (map due_footprint (take l.one-index l.due)))
