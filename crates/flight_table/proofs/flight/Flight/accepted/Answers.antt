use Rattle.std.proofs.Common.{ap}
use Rattle.flight_table.specs.Tables.{KeyedTable}
use Rattle.flight_table.proofs.flight.Flight.accepted.Goals as goal

pub returns : goal.returns
returns c = ap (λ (table : KeyedTable). table.accepted) c.self.view_is
