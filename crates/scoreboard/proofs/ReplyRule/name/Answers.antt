use Rattle.std.proofs.Common.{rules}
use Rattle.scoreboard.proofs.ReplyRule.name.Goals as goal

pub returns-in-Denied : goal.returns-in-Denied
returns-in-Denied c = search rules
