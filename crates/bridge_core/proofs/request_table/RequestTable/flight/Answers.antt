-- The places that are kept are those of the table.
use Rattle.std.proofs.Common.{◌≡◌, subst}
use Rattle.flight_table.specs.Tables.{table_of}
use Rattle.bridge_core.specs.Inside.{kept_table}
use Rattle.bridge_core.specs.HeldRequests.{RequestTable, flight_table_of}
use Rattle.bridge_core.proofs.TableSteps.{table_seen}
use Rattle.bridge_core.proofs.request_table.RequestTable.flight.Goals as goal

pub returns-clause-table : goal.returns-clause-table
returns-clause-table c =
    let i = c.self.inside in
    subst (λ (t : RequestTable). table_of i.flight ≡ flight_table_of t) c.self.view_is (table_seen (kept_table i.config i.map i.flight i.held.items) c.self.invariant.1)
