use Rattle.std.proofs.Common.{rules}
use Rattle.scoreboard.proofs.failed_bursts.Reach.of_reset.Goals as goal

pub returns : goal.returns
returns c = search rules
