use Rattle.std.proofs.Common.{List, Some, ap, sym, ◌∙◌}
use Rattle.std.specs.Prelude.{option_map}
use Rattle.std.specs.List.{find}
use Rattle.bus_words.proofs.FirstPlaces.{find-first, find-none}
use Rattle.flight_table.specs.Clients.{own_done}
use Rattle.flight_table.specs.declared.clients.OwnRequest.{OwnRequest}
use Rattle.flight_table.proofs.ClientLaws.{first_marked, none_done}
use Rattle.flight_table.proofs.clients.Client.first_done.Goals as goal

pub returns-in_err-place : goal.returns-in_err-place
returns-in_err-place c =
    let own = c.self.inside.requests.items in
    let none = none_done own c.self.inside.done c.self.invariant.1 c.in_err-place.ensures in
    c.from_residual.ensures ∙ sym (ap (option_map (λ (one : OwnRequest). one.key)) (find-none own_done own none))
    ∙ ap (λ (all : List OwnRequest). option_map (λ (one : OwnRequest). one.key) (find own_done all)) c.self.view_is

pub returns : goal.returns
returns c =
    let own = c.self.inside.requests.items in
    let place = c.in_ok-place.place in
    let first = first_marked own c.self.inside.done place c.self.invariant.1 c.in_ok-place.ensures in
    ap (λ (one : OwnRequest). Some one.key) c.index.ensures
    ∙ sym (ap (option_map (λ (one : OwnRequest). one.key)) (find-first own_done own place c.index.result.now first))
    ∙ ap (λ (all : List OwnRequest). option_map (λ (one : OwnRequest). one.key) (find own_done all)) c.self.view_is
