use Rattle.flight_table.proofs.Index.{key-there, keys_of, request_held}
use Rattle.flight_table.proofs.slots.Slots.get.Goals as goal

pub index-requires : goal.index-requires
index-requires c = rw c.slot.ensures.value (key-there c.self.inside.requests c.args.key c.self.inside.order.items c.self.invariant.0.there (rw c.self.view_is c.requires))

pub returns-clause-request : goal.returns-clause-request
returns-clause-request c =
    let s = c.self.inside.requests in
    let ks = c.self.inside.order.items in
    rw (← c.self.view_is) (request_held s c.args.key ks c.index.result.now (rw c.self.view_is c.requires) (rw c.slot.ensures.value at c.index.ensures))

pub returns-clause-keys : goal.returns-clause-keys
returns-clause-keys c = rw (← c.self.view_is, keys_of c.self.inside.requests c.self.inside.order.items) c.self.invariant.0.distinct
