-- Where no request is ready the first beat that waits is the first step.
use Rattle.std.proofs.Common.{refl, arith, subst, sym}
use Rattle.world.specs.Choices.{IsPerformed, LeadsTo}
use Rattle.world.specs.World.{WorldState}
use Rattle.world.specs.declared.Step.TheVariants.{Perform}
use Rattle.world.proofs.Drained.{led_few, led_step, step_less}
use Rattle.world.proofs.FirstSteps.{first_perform, stays_unready}
use Rattle.world.proofs.world.World.perform_all.Goals as goal

pub loop-made-init : goal.loop-made-init
loop-made-init c = (refl, c.requires)

pub overflow_add-made : goal.overflow_add-made
overflow_add-made c = omega (arith, led_few c.loop-made.made c.args.self.now c.loop-made.self c.loop-made.invariant.0)

pub loop-made-smaller : goal.loop-made-smaller
loop-made-smaller c =
    let now = c.loop-made.self in
    let made = c.loop-made-test.ensures.first refl in
    rw made.state (step_less now (Perform made.serial made.beat) c.perform_first.ensures.laws.0 (first_perform now made.serial made.beat c.loop-made.invariant.1 made.first))

pub loop-made-preserved : goal.loop-made-preserved
loop-made-preserved c =
    let now = c.loop-made.self in
    let made = c.loop-made-test.ensures.first refl in
    rw made.state (
      led_step c.args.self.now now c.loop-made.made (Perform made.serial made.beat) c.loop-made.invariant.0 c.perform_first.ensures.laws.0 (first_perform now made.serial made.beat c.loop-made.invariant.1 made.first),
      stays_unready now made.serial made.beat c.loop-made.invariant.1,
    )

pub returns-clause-leads : goal.returns-clause-leads
returns-clause-leads c = subst (λ (state : WorldState). LeadsTo c.args.self.now c.loop-made.made state) (sym (c.loop-made-test.ensures.none refl).1) c.loop-made.invariant.0

pub returns-clause-performed : goal.returns-clause-performed
returns-clause-performed c =
    let none = c.loop-made-test.ensures.none refl in
    subst (λ (state : WorldState). IsPerformed state) (sym none.1) (record { idle = c.loop-made.invariant.1; performed = none.0 })
