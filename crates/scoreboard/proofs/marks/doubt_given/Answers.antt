-- A request without data gives nothing.
use Rattle.std.proofs.Common.{sym, ◌∙◌}
use Rattle.serial_memory.specs.SerialMemory.{doubts_of, memory_of, place_in}
use Rattle.scoreboard.specs.Boards.{acting}
use Rattle.tl_messages.specs.Requests.{request_of}
use Rattle.scoreboard.proofs.held.UnknownBytes.{unknown_silent}
use Rattle.scoreboard.proofs.marks.doubt_given.Goals as goal

pub returns-else-has_data-clause-bytes : goal.returns-else-has_data-clause-bytes
returns-else-has_data-clause-bytes c =
    unknown_silent (doubts_of c.args.marks.now) c.args.lanes.now (place_in (memory_of c.args.marks.now) (acting c.args.errors (request_of c.args.request.now))) c.args.request.now
    (rw (← c.operation.ensures) (sym c.has_data.ensures ∙ c.if-has_data.false))
