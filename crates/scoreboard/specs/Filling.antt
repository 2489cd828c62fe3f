-- What a memory began with, as a tester says it, byte by byte.
use Rattle.std.specs.Prelude.{ℕ, List, length}
use Rattle.scoreboard.specs.Boards.{Beginning, Board}
use Rattle.serial_memory.specs.SerialMemory.{filled, known_from, with_filled}

-- the beginning of which these bytes are known from an address on
abbrev pub filled_beginning : Beginning → ℕ → List ℕ → Beginning
filled_beginning beginning address bytes =
    record beginning { bytes = with_filled beginning.bytes address bytes; unknown = known_from beginning.unknown address (length bytes) }

-- a board whose memory has them
abbrev pub filled_on : Board → ℕ → List ℕ → Board
filled_on board address bytes =
    record board { memory = filled board.memory address bytes; indeterminate = known_from board.indeterminate address (length bytes) }
