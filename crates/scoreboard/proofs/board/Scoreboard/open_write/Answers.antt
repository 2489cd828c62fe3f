use Rattle.std.proofs.Common.{rules}
use Rattle.scoreboard.proofs.board.Scoreboard.open_write.Goals as goal

pub returns : goal.returns
returns c = search rules
