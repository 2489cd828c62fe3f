-- The number of a request that begins is the next.
use Rattle.std.proofs.Common.{ℕ, ◌<◌, ap, arith, length, subst, sym}
use Rattle.std.specs.Prelude.{slice_set}
use Rattle.value_board.specs.AllValues.{AreAllLive, ValuesHeld}
use Rattle.value_board.proofs.Rising.{all_started}
use Rattle.value_board.proofs.all_values.Values.start.Goals as goal

pub invariant_of-self : goal.invariant_of-self
invariant_of-self c =
    let inside = c.self.inside in
    let after = slice_set inside.clients.items c.args.client c.start.new.found in
    let within : c.args.client < length inside.clients.items = omega (arith, c.requires.client, ap (λ (v : ValuesHeld). length v.clients) c.self.view_is) in
    subst (λ (low : ℕ). AreAllLive low c.start.new.memory.begun after) (sym c.start.ensures.oldest)
    (subst (λ (high : ℕ). AreAllLive inside.memory.oldest high after) (sym c.start.ensures.begun)
    (all_started c.args.client inside.memory.oldest inside.memory.begun c.args.reach inside.clients.items c.index_mut.result.now c.start.new.found c.self.invariant within
    c.index_mut.ensures.value c.start.ensures.low c.start.ensures.numbers))
