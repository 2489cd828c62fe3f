use Rattle.std.proofs.Common.{List, ◌∙◌, ap}
use Rattle.std.specs.Prelude.{option_map}
use Rattle.std.specs.List.{find}
use Rattle.flight_table.specs.Clients.{own_done}
use Rattle.flight_table.specs.declared.clients.OwnRequest.{OwnRequest}
use Rattle.flight_table.proofs.ClientLaws.{done_own, own_list}
use Rattle.flight_table.proofs.live.Live.oldest_done.Goals as goal

pub returns : goal.returns
returns c =
    let i = c.self.inside in
    rw (← c.self.view_is) (c.first_done.ensures ∙ ap (λ (own : List OwnRequest). option_map (λ (o : OwnRequest). o.key) (find own_done own)) (own_list 8 c.args.client i.slots i.clients c.self.invariant.4) ∙ done_own c.args.client i.slots)
