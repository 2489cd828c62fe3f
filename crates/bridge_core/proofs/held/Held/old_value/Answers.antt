use Rattle.std.proofs.Common.{rules}
use Rattle.bridge_core.proofs.held.Held.old_value.Goals as goal

pub returns : goal.returns
returns c = search rules
