use Rattle.std.proofs.Common.{rules}
use Rattle.scoreboard.proofs.marks.sure_in.Goals as goal

pub returns : goal.returns
returns c = search rules
