use Rattle.std.proofs.Common.{None, get_or, ◌∙◌, ap}
use Rattle.flight_table.proofs.HeldIds.{holder_is, no_holder}
use Rattle.flight_table.proofs.live.Live.of_id.Goals as goal

pub returns-clause-key : goal.returns-clause-key
returns-clause-key c =
    let i = c.self.inside in
    rw (← c.self.view_is) (λ within. c.holder.ensures ∙ ap (λ holders. get_or holders c.args.id None) c.self.invariant.2 ∙ holder_is i.limits.ids c.args.id i.slots within)

pub returns-clause-beyond : goal.returns-clause-beyond
returns-clause-beyond c =
    let i = c.self.inside in
    rw (← c.self.view_is) (λ beyond. c.holder.ensures ∙ ap (λ holders. get_or holders c.args.id None) c.self.invariant.2 ∙ no_holder i.limits.ids c.args.id i.slots beyond)
