-- The table finds a done request exactly where one is live.
use Rattle.std.proofs.Common.{◌∙◌, ap}
use Rattle.std.specs.Prelude.{is_some}
use Rattle.flight_table.specs.Tables.{FlightTable, is_done_of}
use Rattle.flight_table.specs.Tables as flights
use Rattle.bridge_core.specs.Bridge.{StockedBridge}
use Rattle.bridge_core.specs.HeldRequests.{oldest_done}
use Rattle.bridge_core.proofs.Pumps.{found_live}
use Rattle.bridge_core.proofs.bridge.Bridge.first_done.Goals as goal

pub returns : goal.returns
returns c =
    c.first_done.ensures ∙ ap (λ (t : FlightTable). is_some (flights.oldest_done t c.args.client)) c.flight.ensures.table
    ∙ found_live (is_done_of c.args.client) c.self.inside.requests.live
    ∙ ap (λ (b : StockedBridge). is_some (oldest_done b.state.requests.live c.args.client)) c.self.view_is
