use Rattle.std.proofs.Common.{rules}
use Rattle.flight_table.proofs.flight.Flight.plan.Goals as goal

pub returns : goal.returns
returns c = search rules
