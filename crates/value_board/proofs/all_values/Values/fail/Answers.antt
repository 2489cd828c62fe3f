-- The same requests are in flight.
use Rattle.std.proofs.Common.{◌≡◌, ℕ, List, map, rules, subst, sym}
use Rattle.std.proofs.lemmas.List.{places, with_items_is}
use Rattle.value_board.specs.AllValues.{AreAllLive}
use Rattle.value_board.specs.ClientValues.{ClientNumbers}
use Rattle.value_board.specs.Values.{struck_by}
use Rattle.value_board.proofs.Rising.{struck_live}
use Rattle.value_board.proofs.all_values.Values.fail.Goals as goal

pub invariant_of-self : goal.invariant_of-self
invariant_of-self c =
    let inside = c.self.inside in
    let was : List ClientNumbers = c.as_mut_slice.result.now in
    let after : List ClientNumbers = map (struck_by c.args.span) was in
    let low = c.fail_all.new.memory.oldest in
    let high = c.fail_all.new.memory.begun in
    let same : was ≡ inside.clients.items = c.as_mut_slice.ensures.value in
    let rising : AreAllLive inside.memory.oldest inside.memory.begun after =
    struck_live c.args.span inside.memory.oldest inside.memory.begun was
    (subst (λ (clients : List ClientNumbers). AreAllLive inside.memory.oldest inside.memory.begun clients) (sym same) c.self.invariant) in
    subst (λ (clients : List ClientNumbers). AreAllLive low high clients) (sym (with_items_is inside.clients c.strike_each.new.clients (search (rules, places))))
    (subst (λ (clients : List ClientNumbers). AreAllLive low high clients) (sym c.strike_each.ensures)
    (subst (λ (begun : ℕ). AreAllLive low begun after) (sym c.fail_all.ensures.counts.begun)
    (subst (λ (oldest : ℕ). AreAllLive oldest inside.memory.begun after) (sym c.fail_all.ensures.counts.oldest) rising)))
