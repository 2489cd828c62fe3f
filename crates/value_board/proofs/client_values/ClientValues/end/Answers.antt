-- The request at the place is the one of that number.
use Rattle.std.proofs.Common.{◌≡◌, ◌==◌, ◌∙◌, List, ap, subst, sym}
use Rattle.std.specs.Prelude.{None, Some}
use Rattle.std.specs.List.{position}
use Rattle.bus_words.proofs.FirstPlaces.{find-none, position_is_first, without_first-first}
use Rattle.value_board.specs.ClientValues.{ClientNumbers, without_number}
use Rattle.value_board.specs.declared.client_values.Begun.{Begun}
use Rattle.value_board.proofs.NumberLists.{without_none}
use Rattle.value_board.proofs.client_values.ClientValues.end.Goals as goal

pub returns-in_default : goal.returns-in_default
returns-in_default c =
    let inside = c.self.inside in
    let view : ClientNumbers = record { by_source = inside.by_source.items; answering = inside.answering; coming = inside.coming; hidden = inside.hidden.items; struck = inside.struck; live = inside.live.items } in
    let test = λ (begun : Begun). begun.number == c.args.number in
    let none : position test inside.live.items ≡ None = ap (position test) (sym c.as_slice.ensures.value) ∙ sym c.place_of.ensures ∙ c.in_default.is in
    let stays : ClientNumbers → Type 0 = λ s. s ≡ record s { live = without_number c.args.number s.live } in
    subst stays c.self.view_is (ap (λ (live : List Begun). record view { live = live }) (sym (without_none test inside.live.items (find-none test inside.live.items none))))

pub returns : goal.returns
returns c =
    let inside = c.self.inside in
    let view : ClientNumbers = record { by_source = inside.by_source.items; answering = inside.answering; coming = inside.coming; hidden = inside.hidden.items; struck = inside.struck; live = inside.live.items } in
    let test = λ (begun : Begun). begun.number == c.args.number in
    let found : position test inside.live.items ≡ Some c.in-Some.place = ap (position test) (sym c.as_slice.ensures.value) ∙ sym c.place_of.ensures ∙ c.in-Some.is in
    let leaves : ClientNumbers → Type 0 = λ s. record view { live = c.remove.new.self.items } ≡ record s { live = without_number c.args.number s.live } in
    subst leaves c.self.view_is
    (ap (λ (live : List Begun). record view { live = live })
    (c.remove.ensures.items ∙ sym (without_first-first test inside.live.items c.in-Some.place (position_is_first test inside.live.items c.in-Some.place found))))
