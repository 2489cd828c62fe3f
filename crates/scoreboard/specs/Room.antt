-- When a beat asks for memory: a page gets its room when a request first gives it bytes (this project's profile).
use Rattle.std.specs.Prelude.{ℕ, Bool, true, false, ◌&&◌, Option, Some, None, Result, Ok, Err, if◌then◌else◌, slice_get}
use Rattle.tl_messages.specs.Operations.{named_operation}
use Rattle.tl_messages.specs.declared.ABeat.{ABeat}
use Rattle.tl_messages.specs.declared.Operation.{Operation}
use Rattle.tl_checker.specs.declared.Progress.{Progress}
use Rattle.tl_checker.specs.declared.Progress.TheVariants.{More, Whole}
use Rattle.tl_checker.specs.declared.TlRule.{TlRule}
use Rattle.scoreboard.specs.Boards.{Board, ClientBoard, answer_to}
use Rattle.scoreboard.specs.declared.Errors.{Errors}
use Rattle.scoreboard.specs.declared.Errors.TheVariants.{Any, Strict}
use Rattle.scoreboard.specs.declared.ObservedBeat.{ObservedBeat}
use Rattle.scoreboard.specs.declared.ObservedBeat.TheVariants.{A, D, Axi, Drained}
use Rattle.scoreboard.specs.declared.Policy.{Policy}
use Rattle.scoreboard.specs.declared.Policy.TheVariants.{AcceptanceOrder, RealTime}
use Rattle.serial_memory.specs.SerialMemory.{Memory, lacks_room, place_given}

-- whether a beat gives no bytes, since it is corrupt: where errors are told in any way, one that is may give them all the same
abbrev pub is_dropped : Errors → ABeat → Bool
is_dropped Strict beat = beat.corrupt
is_dropped Any beat = false

-- the address of a good page at which an operation gives bytes, if there is one
abbrev pub place_named : Memory → Option Operation → ℕ → Option ℕ
place_named memory None address = None
place_named memory (Some operation) address = place_given memory operation address

-- the same of a beat on channel A
abbrev pub place_of_beat : Errors → Memory → ABeat → Option ℕ
place_of_beat errors memory beat = if is_dropped errors beat then None else place_named memory (named_operation beat.opcode beat.param) beat.address

-- whether the bytes of a message are given by now, by what its client's port answers to its beat: in order of acceptance with the last one, in real time from
-- the first on
abbrev pub gives_by_now : Policy → Result Progress TlRule → Bool
gives_by_now policy (Err broken) = false
gives_by_now AcceptanceOrder (Ok More) = false
gives_by_now AcceptanceOrder (Ok Whole) = true
gives_by_now RealTime (Ok progress) = true

-- whether a beat on a client's channel A gives bytes to a page that has no room
abbrev pub asks_room : Policy → Board → (ℕ → Bool) → Option ClientBoard → ABeat → Bool
asks_room policy board rooms None beat = false
asks_room policy board rooms (Some client) beat = gives_by_now policy (answer_to policy client beat) && lacks_room rooms (place_of_beat board.errors board.memory beat)

-- whether a beat does: none on another channel
abbrev pub asks_for_room : Policy → Board → (ℕ → Bool) → ObservedBeat → Bool
asks_for_room policy board rooms (A client beat) = asks_room policy board rooms (slice_get board.clients client) beat
asks_for_room policy board rooms (D client beat) = false
asks_for_room policy board rooms (Axi beat) = false
asks_for_room policy board rooms Drained = false
