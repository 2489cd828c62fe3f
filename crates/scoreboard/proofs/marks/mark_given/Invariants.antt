-- The bytes of the words before this one are marked.
use Rattle.std.proofs.Common.{◌≡◌, ◌&&◌, ◌+◌, ◌*◌, ℕ, not, if◌then◌else◌}
use Rattle.std.specs.Prelude.{nat_lt}
use Rattle.bus_words.specs.Lanes.{word_address}
use Rattle.tl_messages.specs.Requests.{bytes_given}
use Rattle.serial_memory.specs.SerialMemory.{doubts_of}
use Rattle.scoreboard.specs.InsideBoards.{determined_in, IsMarkedAlone}
use Rattle.scoreboard.proofs.held.Marks.{gives}
use Rattle.scoreboard.proofs.marks.mark_given.Given as goal

abbrev pub invariant-loop-k : goal.invariant-loop-k
invariant-loop-k l =
    IsMarkedAlone l.fn.marks l.marks
    × ((x : ℕ) → doubts_of l.marks x
    ≡ (if gives (bytes_given l.request) l.footprint.address x && nat_lt (word_address x) (word_address l.footprint.address + 8 * l.k) then not (determined_in l.footprint x && l.fixed) else doubts_of l.fn.marks x))
