use Rattle.std.proofs.Common.{◌≡◌}
use Rattle.check_script.specs.ClientPorts.{opening_clients}
use Rattle.check_script.proofs.client_ports.ClientPorts.new.Given as goal

abbrev pub invariant-loop-client : goal.invariant-loop-client
invariant-loop-client l = l.clients.items ≡ opening_clients l.config l.client
