use Rattle.std.proofs.Common.{rules}
use Rattle.bridge_core.proofs.bridge.Bridge.unsent_work.Goals as goal

pub returns-clause-work : goal.returns-clause-work
returns-clause-work c = search rules
