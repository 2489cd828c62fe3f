use Rattle.std.proofs.Common.{rules}
use Rattle.bridge_core.proofs.bridge.no_place.Goals as goal

pub returns-then-not-room : goal.returns-then-not-room
returns-then-not-room c = search rules

pub returns-then-accepted : goal.returns-then-accepted
returns-then-accepted c = search rules
