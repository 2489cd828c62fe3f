use Rattle.std.proofs.Common.{[], ◌∷◌, ◌++◌, ◌≡◌, ◌+◌, ◌∙◌, ap, arith, length, length-append, length-set}
use Rattle.flight_table.proofs.Index.{entries-add, fresh, fresh-add, index-add, keys_of, length_entries}
use Rattle.flight_table.proofs.SlotPlaces.{places_added}
use Rattle.flight_table.proofs.slots.Slots.add.Goals as goal

pub invariant_of-self : goal.invariant_of-self
invariant_of-self c =
    let s = c.self.inside.requests in
    let ks = c.self.inside.order.items in
    let slot = c.insert_reserved-slot in
    let many : c.len.result ≡ 0 + length ks = omega (arith, c.len.ensures, c.self.inside.order.ok) in (
      rw c.push_reserved.ensures.items (index-add s slot.new.self slot.result c.args.request ks c.self.invariant.0 slot.ensures.was_vacant slot.ensures.updates slot.ensures.len),
      omega (arith, c.self.invariant.1, c.push_reserved.ensures.capacity),
      slot.ensures.capacity ∙ c.self.invariant.2,
      omega (arith, c.requires, length_entries s ks, ap length c.self.view_is, ap length c.push_reserved.ensures.items, length-append ks (slot.result ∷ [])),
      rw (c.push_reserved.ensures.items, many) (places_added 0 slot.result c.self.inside.places ks c.self.invariant.4 (fresh s slot.result ks slot.ensures.was_vacant c.self.invariant.0.there) (omega (arith, slot.ensures.key_in_range, slot.ensures.capacity, c.self.invariant.2, c.self.invariant.5))),
      length-set c.self.inside.places slot.result c.len.result ∙ c.self.invariant.5,
    )

pub returns-clause-entries : goal.returns-clause-entries
returns-clause-entries c =
    let s = c.self.inside.requests in
    let ks = c.self.inside.order.items in
    let slot = c.insert_reserved-slot in
    rw (c.push_reserved.ensures.items, ← c.self.view_is) (entries-add s slot.new.self slot.result c.args.request ks c.self.invariant.0 slot.ensures.was_vacant slot.ensures.updates)

pub returns-clause-fresh : goal.returns-clause-fresh
returns-clause-fresh c =
    rw (← c.self.view_is) (fresh-add c.self.inside.requests c.insert_reserved-slot.result c.self.inside.order.items c.self.invariant.0 c.insert_reserved-slot.ensures.was_vacant)

pub returns-clause-old_keys : goal.returns-clause-old_keys
returns-clause-old_keys c = rw (← c.self.view_is, keys_of c.self.inside.requests c.self.inside.order.items) c.self.invariant.0.distinct

pub returns-clause-keys : goal.returns-clause-keys
returns-clause-keys c =
    let s = c.self.inside.requests in
    let ks = c.self.inside.order.items in
    let slot = c.insert_reserved-slot in
    let index = index-add s slot.new.self slot.result c.args.request ks c.self.invariant.0 slot.ensures.was_vacant slot.ensures.updates slot.ensures.len in
    rw (c.push_reserved.ensures.items, keys_of slot.new.self (ks ++ slot.result ∷ [])) index.distinct

pub invariant_of-key : goal.invariant_of-key
invariant_of-key c = omega (arith, c.insert_reserved-slot.ensures.key_in_range, c.insert_reserved-slot.ensures.capacity, c.self.invariant.2)
