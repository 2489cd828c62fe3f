use Rattle.std.proofs.Common.{is_none, sym, ◌∙◌, ap}
use Rattle.std.specs.List.{position}
use Rattle.flight_table.specs.LiveRequests.{LiveRequest}
use Rattle.flight_table.proofs.HeldIds.{first_free}
use Rattle.flight_table.proofs.live.Live.id_for.Goals as goal

pub returns-in-None : goal.returns-in-None
returns-in-None c =
    let i = c.self.inside in
    let none = ap (λ (r : LiveRequest). r.id) (sym c.request.view_is) ∙ c.in-None.is in
    rw (← c.self.view_is, none) (c.first_free.ensures ∙ ap (position is_none) c.self.invariant.2 ∙ first_free i.limits.ids i.slots)
