use Rattle.std.proofs.Common.{rules}
use Rattle.scoreboard.proofs.clients.Client.take_early.Goals as goal

pub returns-clause-left : goal.returns-clause-left
returns-clause-left c = search rules
