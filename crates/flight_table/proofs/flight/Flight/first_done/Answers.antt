use Rattle.std.proofs.Common.{◌∙◌, ap, is_some}
use Rattle.std.specs.List.{find}
use Rattle.flight_table.specs.Tables.{KeyedTable, is_done_of, requests_of}
use Rattle.flight_table.proofs.KeyLaws.{some_found}
use Rattle.flight_table.proofs.flight.Flight.first_done.Goals as goal

pub returns : goal.returns
returns c =
    c.is_some.ensures ∙ ap is_some c.oldest_done.ensures ∙ some_found (is_done_of c.args.client) c.self.inside.live.entries
    ∙ ap (λ (t : KeyedTable). is_some (find (is_done_of c.args.client) (requests_of t.entries))) c.self.view_is
