use Rattle.std.proofs.Common.{rules}
use Rattle.scoreboard.proofs.board.Scoreboard.looked_at.Goals as goal

pub returns-in-W : goal.returns-in-W
returns-in-W c = search rules
