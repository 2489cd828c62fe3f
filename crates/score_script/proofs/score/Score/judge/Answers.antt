-- Memory is refused only where the beat would ask for it if no page had room.
use Rattle.std.proofs.Common.{rules}
use Rattle.score_script.proofs.Wanting.{asks_whatever}
use Rattle.scoreboard.specs.InsideBoards.{board_of}
use Rattle.serial_memory.specs.SerialMemory.{rooms_of}
use Rattle.score_script.proofs.score.Score.judge.Goals as goal

pub returns-in_err-found-clause-cause : goal.returns-in_err-found-clause-cause
returns-in_err-found-clause-cause c =
    let asks = asks_whatever c.args.self.now.board.policy (board_of c.args.self.now.board) (rooms_of c.args.self.now.board.memory) c.args.seen.now.beat c.in_err-found.ensures.cause in
    search (rules, asks, c.from_residual.ensures)
