use Rattle.std.proofs.Common.{rules}
use Rattle.scoreboard.proofs.clients.Client.reset.Goals as goal

pub returns-clause-client : goal.returns-clause-client
returns-clause-client c = search rules
