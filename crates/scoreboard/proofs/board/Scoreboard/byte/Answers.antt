use Rattle.std.proofs.Common.{rules}
use Rattle.scoreboard.proofs.board.Scoreboard.byte.Goals as goal

pub returns : goal.returns
returns c = search rules
