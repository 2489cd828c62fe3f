use Rattle.std.proofs.Common.{rules}
use Rattle.scoreboard.proofs.ReplyRule.number.Goals as goal

pub returns : goal.returns
returns c = search rules
