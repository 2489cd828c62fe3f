use Rattle.std.proofs.Common.{◌≡◌, ◌∙◌, List, Some, ap, set, sym, true}
use Rattle.std.proofs.lemmas.List.{map-set}
use Rattle.std.specs.List.{position}
use Rattle.bus_words.specs.Places.{change_first}
use Rattle.bus_words.proofs.FirstPlaces.{change_first-first, position_is_first}
use Rattle.flight_table.specs.Clients.{has_own_key, own_done, own_finished}
use Rattle.flight_table.specs.declared.clients.OwnRequest.{OwnRequest}
use Rattle.flight_table.proofs.clients.Client.finish.Goals as goal

pub invariant_of-self : goal.invariant_of-self
invariant_of-self c =
    let own = c.self.inside.requests.items in
    let place = c.unwrap-place.result in
    let marks = c.put.ensures ∙ ap (λ marks. set marks place true) c.self.invariant.1 ∙ sym (map-set own_done own place (own_finished c.index_mut.result.now)) in
    (c.self.invariant.0, marks)

pub returns : goal.returns
returns c =
    let own = c.self.inside.requests.items in
    let place = c.unwrap-place.result in
    let d = c.index_mut.result.now in
    let found : position (has_own_key c.args.key) own ≡ Some place = ap (position (has_own_key c.args.key)) (sym c.deref.ensures.value) ∙ sym c.place_of.ensures ∙ c.unwrap-place.ensures in
    ap (λ (r : OwnRequest). set own place (own_finished r)) c.index_mut.ensures.value
    ∙ sym (change_first-first (has_own_key c.args.key) own_finished own place d (position_is_first (has_own_key c.args.key) own place found))
    ∙ ap (λ (rs : List OwnRequest). change_first (has_own_key c.args.key) own_finished rs) c.self.view_is
