use Rattle.std.proofs.Common.{ap, is_none, is_some, sym, ◌∙◌}
use Rattle.std.specs.List.{position}
use Rattle.flight_table.specs.Tables.{requests_of}
use Rattle.flight_table.proofs.HeldIds.{first_free}
use Rattle.flight_table.proofs.Ready.{first_with, first_without}
use Rattle.flight_table.proofs.live.Live.place_ready.Goals as goal

pub returns-then-has_free : goal.returns-then-has_free
returns-then-has_free c =
    let i = c.self.inside in
    let free = ap is_some (ap (position is_none) c.self.invariant.2 ∙ first_free i.limits.ids i.slots) in
    rw (← c.self.view_is) (c.first_common.ensures ∙ first_with i.limits (requests_of i.slots) i.able i.named i.unheld c.self.invariant.0 (sym free ∙ sym c.has_free.ensures ∙ c.if-has_free.true))

pub returns : goal.returns
returns c =
    let i = c.self.inside in
    let free = ap is_some (ap (position is_none) c.self.invariant.2 ∙ first_free i.limits.ids i.slots) in
    rw (← c.self.view_is) (c.first_common-2.ensures ∙ first_without i.limits (requests_of i.slots) i.able i.named i.unheld c.self.invariant.0 (sym free ∙ sym c.has_free.ensures ∙ c.if-has_free.false))
