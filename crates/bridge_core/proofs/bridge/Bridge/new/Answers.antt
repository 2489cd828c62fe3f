use Rattle.std.proofs.Common.{rules}
use Rattle.bridge_core.proofs.bridge.Bridge.new.Goals as goal

pub returns-then-not-is_valid-clause-bad : goal.returns-then-not-is_valid-clause-bad
returns-then-not-is_valid-clause-bad c = search rules
