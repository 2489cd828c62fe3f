use Rattle.std.proofs.Common.{rules}
use Rattle.config.proofs.Config.is_valid.Goals as goal

pub returns-then-self-eq8 : goal.returns-then-self-eq8
returns-then-self-eq8 c = search rules
