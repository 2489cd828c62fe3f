-- Those so far are marked.
use Rattle.std.proofs.Common.{◌≡◌, map, take}
use Rattle.serial_memory.specs.SerialMemory.{doubts_of}
use Rattle.scoreboard.specs.Boards.{footprints_of}
use Rattle.scoreboard.specs.FailedBursts.{after_reached}
use Rattle.scoreboard.specs.InsideBoards.{client_of, IsMarkedAlone}
use Rattle.scoreboard.proofs.all_clients.mark_reached.Given as goal

abbrev pub invariant-loop-client : goal.invariant-loop-client
invariant-loop-client l =
    IsMarkedAlone l.fn.marks l.marks
    × (doubts_of l.marks ≡ after_reached (doubts_of l.fn.marks) l.reach (footprints_of (map client_of (take l.client-index l.clients))))
