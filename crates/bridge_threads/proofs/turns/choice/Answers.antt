-- The choice of a word is one of the enabled steps.
use Rattle.std.proofs.Common.{◌≡◌, ◌<◌, ◌%◌, ◌∙◌, Some, ap, ap₂, length, refl, sym, subst, arith}
use Rattle.std.specs.Prelude.{slice_get}
use Rattle.std.proofs.lemmas.List.{nil_from_length}
use Rattle.world.specs.World.{enabled}
use Rattle.bridge_threads.proofs.turns.choice.Goals as goal

pub returns-then-choices-eq0-clause-none : goal.returns-then-choices-eq0-clause-none
returns-then-choices-eq0-clause-none c is =
    let none : length (enabled c.args.shared.now.world) ≡ 0 = ap (λ w. length (enabled w)) (sym c.world.ensures.world) ∙ sym c.choices-choices.ensures ∙ c.if-choices-eq0.true in
    (nil_from_length (enabled c.args.shared.now.world) none, refl, refl)

pub choose-step-requires : goal.choose-step-requires
choose-step-requires c =
    let count : c.from.result ≡ length (enabled c.world-2.result.now) =
    c.from.ensures ∙ c.choices-choices.ensures ∙ ap (λ w. length (enabled w)) (c.world.ensures.world ∙ sym c.world-2.ensures.world) in
    let some : 0 < c.from.result = omega (arith, c.from.ensures, c.if-choices-eq0.false) in
    let below : c.word_at-word.result % c.from.result < c.from.result = omega (arith, some) in
    subst (λ n. c.word_at-word.result % c.from.result < n) count below

pub returns-clause-made : goal.returns-clause-made
returns-clause-made c is =
    let count : c.from.result ≡ length (enabled c.args.shared.now.world) = c.from.ensures ∙ c.choices-choices.ensures ∙ ap (λ w. length (enabled w)) c.world.ensures.world in (
      c.choose-step.result,
      subst (λ k. slice_get (enabled c.args.shared.now.world) k ≡ Some c.choose-step.result) (ap₂ (λ w n. w % n) c.word_at-word.ensures count)
          (subst (λ w. slice_get (enabled w) (c.word_at-word.result % c.from.result) ≡ Some c.choose-step.result) c.world-2.ensures.world c.choose-step.ensures),
      c.in-Ok.ensures.state,
      c.place_after.ensures,
    )
