-- The ports so far are those of the first clients.
use Rattle.std.proofs.Common.{◌≡◌}
use Rattle.bridge_core.specs.Inside.{ports_from}
use Rattle.bridge_core.proofs.ports.opening_ports.Given as goal

abbrev pub invariant-loop-client : goal.invariant-loop-client
invariant-loop-client l = l.ports.items ≡ ports_from l.config 0 l.client
