use Rattle.std.proofs.Common.{rules}
use Rattle.scoreboard.proofs.clients.Client.told.Goals as goal

pub returns : goal.returns
returns c = search rules
