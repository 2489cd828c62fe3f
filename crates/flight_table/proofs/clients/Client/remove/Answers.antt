use Rattle.std.proofs.Common.{◌≡◌, ◌∙◌, List, Some, ap, arith, map, sym}
use Rattle.std.specs.List.{position, remove}
use Rattle.bus_words.specs.Places.{without_first}
use Rattle.bus_words.proofs.FirstPlaces.{position_is_first, without_first-first}
use Rattle.bus_words.proofs.MappedPlaces.{map-remove}
use Rattle.flight_table.specs.Clients.{has_own_key, own_done}
use Rattle.flight_table.specs.declared.clients.OwnRequest.{OwnRequest}
use Rattle.flight_table.proofs.clients.Client.remove.Goals as goal

pub invariant_of-self : goal.invariant_of-self
invariant_of-self c =
    let own = c.self.inside.requests.items in
    let place = c.unwrap-place.result in (
      omega (arith, c.self.invariant.0, c.remove.ensures.capacity),
      c.remove-2.ensures ∙ ap (λ marks. remove marks place) c.self.invariant.1 ∙ sym (map-remove own_done own place) ∙ ap (map own_done) (sym c.remove.ensures.items),
    )

pub returns : goal.returns
returns c =
    let own = c.self.inside.requests.items in
    let place = c.unwrap-place.result in
    let found : position (has_own_key c.args.key) own ≡ Some place = ap (position (has_own_key c.args.key)) (sym c.deref.ensures.value) ∙ sym c.place_of.ensures ∙ c.unwrap-place.ensures in
    c.remove.ensures.items ∙ sym (without_first-first (has_own_key c.args.key) own place (position_is_first (has_own_key c.args.key) own place found))
    ∙ ap (λ (rs : List OwnRequest). without_first (has_own_key c.args.key) rs) c.self.view_is
