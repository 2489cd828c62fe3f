-- The numbers that are left rise, and the oldest is one of them, or the next.
use Rattle.std.proofs.Common.{◌≡◌, ℕ, ◌+◌, ◌<◌, ◌≤◌, ◌∙◌, List, ap, arith, length, subst, sym}
use Rattle.std.specs.Prelude.{slice_set}
use Rattle.value_board.specs.AllValues.{AreAllLive, ValuesHeld}
use Rattle.value_board.specs.ClientValues.{ClientNumbers}
use Rattle.value_board.specs.Values.{oldest_from}
use Rattle.value_board.proofs.Rising.{ended_live, oldest_least, oldest_live, oldest_most}
use Rattle.value_board.proofs.all_values.Values.end.Goals as goal
use Rattle.value_board.proofs.all_values.Values.end.Goals.{After-oldest_from-oldest}

abbrev after : After-oldest_from-oldest → List ClientNumbers
after c = slice_set c.self.inside.clients.items c.args.client c.end.new.self

rising : (c : After-oldest_from-oldest) → AreAllLive c.self.inside.memory.oldest c.self.inside.memory.begun (after c)
rising c =
    let within : c.args.client < length c.self.inside.clients.items = omega (arith, c.requires.client, ap (λ (v : ValuesHeld). length v.clients) c.self.view_is) in
    ended_live c.args.begun.number c.args.client c.self.inside.memory.oldest c.self.inside.memory.begun c.self.inside.clients.items c.index_mut.result.now c.end.new.self
    c.self.invariant within c.index_mut.ensures.value c.end.ensures

found : (c : After-oldest_from-oldest) → c.oldest_from-oldest.result ≡ oldest_from (c.begun.result + 1) (after c)
found c = c.oldest_from-oldest.ensures ∙ ap (oldest_from (c.begun.result + 1)) c.as_slice.ensures.value

pub set_oldest-requires-clause-from : goal.set_oldest-requires-clause-from
set_oldest-requires-clause-from c =
    let d = (goal.at.set_oldest-requires-clause-from c).After-oldest_from-oldest in
    let low : c.self.inside.memory.oldest ≤ c.begun.result + 1 = omega (arith, c.begun.ensures.oldest, c.begun.ensures.value, c.end_if.ensures.counts.oldest) in
    omega (arith, found d, c.end_if.ensures.counts.oldest, oldest_least (c.begun.result + 1) c.self.inside.memory.oldest c.self.inside.memory.begun (after d) low (rising d))

pub set_oldest-requires-clause-within : goal.set_oldest-requires-clause-within
set_oldest-requires-clause-within c =
    let d = (goal.at.set_oldest-requires-clause-within c).After-oldest_from-oldest in
    omega (arith, found d, c.begun.ensures.value, oldest_most (c.begun.result + 1) (after d))

pub invariant_of-self : goal.invariant_of-self
invariant_of-self c =
    let d = (goal.at.invariant_of-self c).After-oldest_from-oldest in
    subst (λ (high : ℕ). AreAllLive c.set_oldest.new.self.oldest high (after d)) (sym (c.set_oldest.ensures.begun ∙ c.end_if.ensures.counts.begun))
    (subst (λ (oldest : ℕ). AreAllLive oldest c.self.inside.memory.begun (after d)) (sym (c.set_oldest.ensures.oldest ∙ found d))
    (oldest_live (c.begun.result + 1) c.self.inside.memory.oldest c.self.inside.memory.begun (after d) (rising d)))
