use Rattle.std.proofs.Common.{rules}
use Rattle.scoreboard.proofs.board.place_of.Goals as goal

pub returns-in-Strict-clause-place : goal.returns-in-Strict-clause-place
returns-in-Strict-clause-place c = search rules
