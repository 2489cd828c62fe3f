-- Where nothing is written all stays.
use Rattle.std.proofs.Common.{map, sym, ◌∙◌}
use Rattle.tl_messages.specs.Requests.{bytes_given}
use Rattle.serial_memory.specs.SerialMemory.{doubts_of}
use Rattle.scoreboard.specs.Boards.{footprints_of}
use Rattle.scoreboard.specs.InsideBoards.{client_of, footprint_of}
use Rattle.scoreboard.proofs.held.Marks.{writes_nothing}
use Rattle.scoreboard.proofs.board.mark_written.Goals as goal

pub returns-then-not-writes-clause-bytes : goal.returns-then-not-writes-clause-bytes
returns-then-not-writes-clause-bytes c =
    writes_nothing (doubts_of c.args.marks.now) (footprint_of c.args.footprint.now) (bytes_given c.args.request.now) (footprints_of (map client_of c.args.clients.now)) (sym c.writes.ensures ∙ c.if-not-writes.true)
