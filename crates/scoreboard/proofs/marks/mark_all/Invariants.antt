-- The bytes of the words before this one are indeterminate.
use Rattle.std.proofs.Common.{◌≡◌, ◌^◌, ℕ, true}
use Rattle.serial_memory.specs.SerialMemory.{doubts_of}
use Rattle.scoreboard.specs.InsideBoards.{IsMarkedAlone, footprint_of}
use Rattle.scoreboard.specs.Races.{covers}
use Rattle.scoreboard.proofs.held.FootprintBytes.{within}
use Rattle.scoreboard.proofs.held.Marks.{marked_to}
use Rattle.scoreboard.proofs.marks.mark_all.Given as goal

abbrev pub invariant-loop-k : goal.invariant-loop-k
invariant-loop-k l =
    IsMarkedAlone l.fn.marks l.marks
    × ((x : ℕ) → doubts_of l.marks x
    ≡ marked_to (covers (footprint_of l.footprint)) (λ y. true) (doubts_of l.fn.marks) l.footprint.address l.footprint.size (λ y is. within l.footprint.address (2 ^ l.footprint.size) y is) l.k x)
