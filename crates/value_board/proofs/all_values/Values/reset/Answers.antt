-- Nothing is in flight.
use Rattle.std.proofs.Common.{List, rules, subst, sym}
use Rattle.std.proofs.lemmas.List.{places, with_items_is}
use Rattle.value_board.specs.AllValues.{AreAllLive}
use Rattle.value_board.specs.ClientValues.{ClientNumbers}
use Rattle.value_board.proofs.Rising.{reset_live}
use Rattle.value_board.proofs.all_values.Values.reset.Goals as goal

pub invariant_of-self : goal.invariant_of-self
invariant_of-self c =
    let low = c.reset.new.self.oldest in
    let high = c.reset.new.self.begun in
    subst (λ (clients : List ClientNumbers). AreAllLive low high clients) (sym (with_items_is c.self.inside.clients c.reset_each.new.clients (search (rules, places))))
    (subst (λ (clients : List ClientNumbers). AreAllLive low high clients) (sym c.reset_each.ensures) (reset_live low high c.as_mut_slice.result.now))
