-- The bytes of the words before this one are marked.
use Rattle.std.proofs.Common.{◌≡◌, ◌&&◌, ◌+◌, ◌*◌, ℕ, true, if◌then◌else◌}
use Rattle.std.specs.Prelude.{nat_lt}
use Rattle.bus_words.specs.Lanes.{word_address}
use Rattle.tl_messages.specs.Requests.{bytes_given}
use Rattle.serial_memory.specs.SerialMemory.{doubts_of}
use Rattle.scoreboard.specs.InsideBoards.{IsMarkedAlone}
use Rattle.scoreboard.specs.Unknown.{is_unknown_given}
use Rattle.scoreboard.proofs.held.Marks.{gives}
use Rattle.scoreboard.proofs.marks.mark_unknown.Given as goal

abbrev pub invariant-loop-k : goal.invariant-loop-k
invariant-loop-k l =
    IsMarkedAlone l.fn.marks l.marks
    × ((x : ℕ) → doubts_of l.marks x
    ≡ (if (gives (bytes_given l.request) l.address x && is_unknown_given l.lanes l.address x) && nat_lt (word_address x) (word_address l.address + 8 * l.k) then true else doubts_of l.fn.marks x))
