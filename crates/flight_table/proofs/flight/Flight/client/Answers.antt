use Rattle.std.proofs.Common.{◌∙◌, Some, ap, sym}
use Rattle.std.specs.Prelude.{option_map}
use Rattle.flight_table.specs.LiveRequests.{LiveRequest}
use Rattle.flight_table.proofs.flight.Flight.client.Goals as goal

pub returns : goal.returns
returns c =
    rw (← c.self.view_is)
    (ap (option_map (λ (request : LiveRequest). request.client)) c.get.ensures.request ∙ ap (λ (request : LiveRequest). Some request.client) (sym c.behind-self.view_is))
