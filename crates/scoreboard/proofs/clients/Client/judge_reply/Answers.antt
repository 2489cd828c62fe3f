use Rattle.std.proofs.Common.{rules}
use Rattle.scoreboard.proofs.clients.Client.judge_reply.Goals as goal

pub returns-clause-wrong : goal.returns-clause-wrong
returns-clause-wrong c = search rules
