use Rattle.flight_table.proofs.Index.{key_placed, keys_of, length_requests, place_keyed}
use Rattle.flight_table.proofs.SlotPlaces.{place_first, place_is}
use Rattle.flight_table.proofs.slots.Slots.place_in.Goals as goal

pub returns-clause-place : goal.returns-clause-place
returns-clause-place c =
    let ks = c.self.inside.order.items in
    rw (← c.self.view_is, place_keyed c.self.inside.requests c.args.slot ks, c.from.ensures)
    (place_is c.self.inside.places ks c.args.slot c.self.invariant.4 (key_placed c.self.inside.requests c.args.slot ks (rw c.self.view_is c.requires.live)))

pub returns-clause-within : goal.returns-clause-within
returns-clause-within c =
    let s = c.self.inside.requests in
    let ks = c.self.inside.order.items in
    rw (← c.self.view_is, length_requests s ks, c.from.ensures)
    (place_first c.self.inside.places ks c.args.slot c.self.invariant.4 (key_placed s c.args.slot ks (rw c.self.view_is c.requires.live))).within

pub returns-clause-keys : goal.returns-clause-keys
returns-clause-keys c = rw (← c.self.view_is, keys_of c.self.inside.requests c.self.inside.order.items) c.self.invariant.0.distinct
