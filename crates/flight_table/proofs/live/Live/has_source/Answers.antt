use Rattle.std.proofs.Common.{List, ◌∙◌, ap}
use Rattle.std.specs.List.{list_any}
use Rattle.flight_table.specs.Clients.{has_own_source}
use Rattle.flight_table.specs.declared.clients.OwnRequest.{OwnRequest}
use Rattle.flight_table.proofs.ClientLaws.{own_list, source_own}
use Rattle.flight_table.proofs.live.Live.has_source.Goals as goal

pub returns : goal.returns
returns c =
    let i = c.self.inside in
    rw (← c.self.view_is) (c.has_source.ensures ∙ ap (λ (own : List OwnRequest). list_any (has_own_source c.args.source) own) (own_list 8 c.args.client i.slots i.clients c.self.invariant.4) ∙ source_own c.args.client c.args.source i.slots)
