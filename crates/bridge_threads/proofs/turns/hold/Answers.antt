-- One choice more, or none is left.
use Rattle.std.proofs.Common.{◌≡◌, ◌+◌, ◌∙◌, ◌++◌, ◌∷◌, [], Ok, ap, sym, subst, inr, arith}
use Rattle.std.proofs.lemmas.List.{length_push, nil_from_length}
use Rattle.world.specs.World.{after, enabled}
use Rattle.bridge_threads.specs.Turns.{AreChosen, IsChosen, word_at}
use Rattle.bridge_threads.specs.SharedStates.{turned}
use Rattle.bridge_threads.proofs.TurnLemmas.{AreChosen-append, after_turns-append, world_after_turns}
use Rattle.bridge_threads.proofs.turns.hold.Goals as goal

pub returns-in-Ok-false : goal.returns-in-Ok-false
returns-in-Ok-false c =
    let so_far = c.loop-made.invariant in
    let none = c.choice.ensures.none (c.in-Ok-false.is ∙ ap (λ made. Ok made) c.in-Ok-false.field-0-test) in (
      so_far.0,
      record {
        chosen = subst (λ place. AreChosen c.args.words.now c.args.place.now c.args.shared.now.world so_far.0 place) (sym none.2) so_far.1;
        turns = none.1 ∙ so_far.2;
        few = omega (arith, so_far.3, c.loop-made-test.true);
      },
      (nil_from_length so_far.0 (so_far.3 ∙ c.if-made-eq0.true), ap (λ shared. enabled shared.world) none.1 ∙ none.0),
    )

pub returns-in-Ok-false-2 : goal.returns-in-Ok-false-2
returns-in-Ok-false-2 c =
    let so_far = c.loop-made.invariant in
    let none = c.choice.ensures.none (c.in-Ok-false.is ∙ ap (λ made. Ok made) c.in-Ok-false.field-0-test) in (
      so_far.0,
      record {
        chosen = subst (λ place. AreChosen c.args.words.now c.args.place.now c.args.shared.now.world so_far.0 place) (sym none.2) so_far.1;
        turns = none.1 ∙ so_far.2;
        few = omega (arith, so_far.3, c.loop-made-test.true);
      },
      inr (ap (λ shared. enabled shared.world) none.1 ∙ none.0),
    )

pub loop-made-preserved : goal.loop-made-preserved
loop-made-preserved c =
    let so_far = c.loop-made.invariant in
    let made = c.choice.ensures.made (c.in-Ok-true.is ∙ ap (λ made. Ok made) c.in-Ok-true.field-0-test) in
    let state : c.loop-made.shared.world ≡ after c.args.shared.now.world so_far.0 = ap (λ shared. shared.world) so_far.2 ∙ world_after_turns c.args.shared.now so_far.0 in (
      so_far.0 ++ made.0 ∷ [],
      AreChosen-append c.args.words.now c.args.place.now c.args.shared.now.world so_far.0 c.loop-made.place made.0 c.choice.new.place so_far.1
          (subst (λ world. IsChosen world (word_at c.args.words.now c.loop-made.place) made.0) state made.1) made.3,
      made.2 ∙ ap (λ shared. turned shared made.0) so_far.2 ∙ sym (after_turns-append c.args.shared.now so_far.0 made.0),
      length_push so_far.0 made.0 ∙ ap (λ n. n + 1) so_far.3,
    )
