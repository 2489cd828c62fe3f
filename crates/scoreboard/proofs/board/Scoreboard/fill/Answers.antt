-- Pages that had room keep it.
use Rattle.std.proofs.Common.{map, rules}
use Rattle.serial_memory.specs.SerialMemory.{rooms_of}
use Rattle.scoreboard.specs.Boards.{footprints_of}
use Rattle.scoreboard.specs.InsideBoards.{client_of}
use Rattle.scoreboard.proofs.held.MoreRoom.{more_room}
use Rattle.scoreboard.proofs.board.Scoreboard.fill.Goals as goal

pub invariant_of-self : goal.invariant_of-self
invariant_of-self c = (
  c.self.invariant.0,
  c.self.invariant.1,
  c.self.invariant.2,
  more_room (rooms_of c.self.inside.serial) (rooms_of c.fill.new.self) c.fill.ensures.rooms (footprints_of (map client_of c.self.inside.clients.items)) c.self.invariant.3,
)

pub returns-clause-filled : goal.returns-clause-filled
returns-clause-filled c = search rules
