use Rattle.std.proofs.Common.{◌≡◌, ◌==◌, IsSome, ap, arith, get_or, length, List, ℕ, map, sym, ◌∙◌}
use Rattle.std.specs.List.{remove}
use Rattle.bus_words.specs.Places.{without_first}
use Rattle.flight_table.specs.Inside.{entries_in, lowered_place}
use Rattle.flight_table.specs.Tables.{request_in}
use Rattle.bus_words.proofs.DistinctPlaces.{distinct-without_first}
use Rattle.bus_words.proofs.FirstPlaces.{IsFirst, without_first-first}
use Rattle.bus_words.proofs.MappedPlaces.{length_map}
use Rattle.flight_table.proofs.Index.{entries-remove, index-remove, key_placed, keys_of, length-without}
use Rattle.flight_table.proofs.SlotPlaces.{place_first, places_removed}
use Rattle.flight_table.proofs.slots.Slots.remove.Goals as goal

-- the keys without the one at the place that its slot holds
less : (key : ℕ) (places keys after : List ℕ) → IsFirst (λ k. k == key) keys (get_or places key 0) → (slot place : ℕ) → slot ≡ key → place ≡ get_or places slot 0 → after ≡ remove keys place → after ≡ without_first (λ k. k == key) keys
less key places keys after first slot place own at is = is ∙ ap (remove keys) (at ∙ ap (λ n. get_or places n 0) own) ∙ sym (without_first-first (λ k. k == key) keys (get_or places key 0) first)

pub remove-requires : goal.remove-requires
remove-requires c =
    let ks = c.self.inside.order.items in
    let first = place_first c.self.inside.places ks c.args.key c.self.invariant.4 (key_placed c.self.inside.requests c.args.key ks (rw c.self.view_is c.requires)) in
    rw (c.from.ensures, c.slot.ensures.value) (omega (arith, first.within, c.self.inside.order.ok))

pub invariant_of-self : goal.invariant_of-self
invariant_of-self c =
    let s = c.self.inside.requests in
    let ks = c.self.inside.order.items in
    let ps = c.self.inside.places in
    let key = c.args.key in
    let first = place_first ps ks key c.self.invariant.4 (key_placed s key ks (rw c.self.view_is c.requires)) in
    let items : c.remove.new.self.items ≡ without_first (λ k. k == key) ks = less key ps ks c.remove.new.self.items first c.slot.result c.from.result c.slot.ensures.value c.from.ensures c.remove.ensures.items in
    let lowered : c.lower.new.places ≡ map (lowered_place (get_or ps key 0)) ps = c.lower.ensures ∙ ap (λ n. map (lowered_place (get_or ps n 0)) ps) c.slot.ensures.value in
    let some : IsSome (request_in key (entries_in s ks)) = rw c.self.view_is c.requires in (
      rw items (index-remove s c.try_remove.new.self key ks c.try_remove.result c.self.invariant.0 some (rw c.slot-2.ensures.value at c.try_remove.ensures.updates) (rw c.slot-2.ensures.value at c.try_remove.ensures.value) c.try_remove.ensures.len),
      omega (arith, c.self.invariant.1, c.remove.ensures.capacity),
      omega (arith, c.self.invariant.2, c.try_remove.ensures.capacity),
      omega (arith, c.self.invariant.3, ap length items, length-without s key ks some),
      rw (items, lowered) (places_removed 0 key ps ks c.self.invariant.4 (rw first.first first.within)),
      ap length lowered ∙ length_map (lowered_place (get_or ps key 0)) ps ∙ c.self.invariant.5,
    )

pub returns-clause-keys : goal.returns-clause-keys
returns-clause-keys c =
    let s = c.self.inside.requests in
    let ks = c.self.inside.order.items in
    let ps = c.self.inside.places in
    let key = c.args.key in
    let first = place_first ps ks key c.self.invariant.4 (key_placed s key ks (rw c.self.view_is c.requires)) in
    let items : c.remove.new.self.items ≡ without_first (λ k. k == key) ks = less key ps ks c.remove.new.self.items first c.slot.result c.from.result c.slot.ensures.value c.from.ensures c.remove.ensures.items in
    rw (items, keys_of c.try_remove.new.self (without_first (λ k. k == key) ks)) (distinct-without_first (λ k. k == key) ks c.self.invariant.0.distinct)

pub returns-clause-entries : goal.returns-clause-entries
returns-clause-entries c =
    let s = c.self.inside.requests in
    let ks = c.self.inside.order.items in
    let ps = c.self.inside.places in
    let key = c.args.key in
    let first = place_first ps ks key c.self.invariant.4 (key_placed s key ks (rw c.self.view_is c.requires)) in
    let items : c.remove.new.self.items ≡ without_first (λ k. k == key) ks = less key ps ks c.remove.new.self.items first c.slot.result c.from.result c.slot.ensures.value c.from.ensures c.remove.ensures.items in
    rw (items, ← c.self.view_is) (entries-remove s c.try_remove.new.self key ks c.self.invariant.0.distinct (rw c.slot-2.ensures.value at c.try_remove.ensures.updates))
