use Rattle.std.proofs.Common.{List, ◌∙◌, ap}
use Rattle.flight_table.specs.Tables.{KeyedRequest, key_in, has_number}
use Rattle.flight_table.proofs.Index.{find_scan, keys_of}
use Rattle.flight_table.proofs.slots.Slots.of_number.Goals as goal

pub returns-clause-key : goal.returns-clause-key
returns-clause-key c =
    (rw c.deref.ensures.value at c.of_number.ensures) ∙ find_scan c.self.inside.requests (has_number c.args.number) c.self.inside.order.items
    ∙ ap (λ (entries : List KeyedRequest). key_in (has_number c.args.number) entries) c.self.view_is

pub returns-clause-keys : goal.returns-clause-keys
returns-clause-keys c = rw (← c.self.view_is, keys_of c.self.inside.requests c.self.inside.order.items) c.self.invariant.0.distinct
