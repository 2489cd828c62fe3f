use Rattle.std.proofs.Common.{rules}
use Rattle.scoreboard.proofs.clients.Client.judge_cut.Goals as goal

pub returns-clause-state : goal.returns-clause-state
returns-clause-state c = search rules
