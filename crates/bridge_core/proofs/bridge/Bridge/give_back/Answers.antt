use Rattle.std.proofs.Common.{rules}
use Rattle.bridge_core.proofs.bridge.Bridge.give_back.Goals as goal

pub returns : goal.returns
returns c = search rules
