use Rattle.std.proofs.Common.{List, ◌∙◌, ap, length}
use Rattle.flight_table.specs.declared.clients.OwnRequest.{OwnRequest}
use Rattle.flight_table.proofs.ClientLaws.{count_own, own_list}
use Rattle.flight_table.proofs.live.Live.count_of.Goals as goal

pub returns : goal.returns
returns c =
    let i = c.self.inside in
    rw (← c.self.view_is) (c.count.ensures ∙ ap (λ (own : List OwnRequest). length own) (own_list 8 c.args.client i.slots i.clients c.self.invariant.4) ∙ count_own c.args.client i.slots)
