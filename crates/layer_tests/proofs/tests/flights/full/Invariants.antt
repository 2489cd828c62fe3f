-- The table that requests are offered to has eight clients.
use Rattle.std.specs.Prelude.{◌≡◌}
use Rattle.layer_tests.proofs.tests.flights.full.Given as goal

abbrev pub invariant-loop-number : goal.invariant-loop-number
invariant-loop-number l = l.flight.limits.clients ≡ 8
