use Rattle.std.proofs.Common.{ap, sym, ◌∙◌}
use Rattle.std.specs.List.{position}
use Rattle.flight_table.specs.Inside.{stored}
use Rattle.flight_table.specs.Tables.{key_in, requests_of}
use Rattle.flight_table.proofs.Index.{find_scan, keys_of, place_passing}
use Rattle.flight_table.proofs.slots.Slots.key_at.Goals as goal

pub returns-clause-key : goal.returns-clause-key
returns-clause-key c =
    λ test first.
    let s = c.self.inside.requests in
    let ks = c.self.inside.order.items in
    (rw c.deref.ensures.value at c.key_at.ensures) (λ k. test (stored s k)) (first ∙ ap (λ entries. position test (requests_of entries)) (sym c.self.view_is) ∙ place_passing s test ks)
    ∙ find_scan s test ks ∙ ap (λ entries. key_in test entries) c.self.view_is

pub returns-clause-keys : goal.returns-clause-keys
returns-clause-keys c = rw (← c.self.view_is, keys_of c.self.inside.requests c.self.inside.order.items) c.self.invariant.0.distinct
