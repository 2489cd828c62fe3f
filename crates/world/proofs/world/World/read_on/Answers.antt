-- Where nothing else is enabled the first R is the first step, and only the last of a burst enables another.
use Rattle.std.proofs.Common.{◌≡◌, ◌∙◌, true, refl, ap, arith, sym}
use Rattle.world.specs.Choices.{goes_on}
use Rattle.world.specs.declared.Step.TheVariants.{AnswerR}
use Rattle.world.proofs.Drained.{led_few, led_step, step_less}
use Rattle.world.proofs.FirstSteps.{first_r, none_first, reads_on}
use Rattle.world.proofs.world.World.read_on.Goals as goal

pub loop-id-init : goal.loop-id-init
loop-id-init c = (refl, record { performed = c.requires.performed; written = c.requires.written })

pub overflow_add-made : goal.overflow_add-made
overflow_add-made c = omega (arith, led_few c.loop-id.made c.args.self.now c.loop-id.self c.loop-id.invariant.0)

pub loop-id-smaller : goal.loop-id-smaller
loop-id-smaller c =
    let still = c.loop-id.invariant.1 in
    let first = first_r c.loop-id.self c.in-Some.id still.performed still.written (sym c.first_r.ensures.first ∙ c.in-Some.is) in
    rw c.answer_r-answer.ensures.state (step_less c.loop-id.self (AnswerR c.in-Some.id) c.first_r.ensures.laws first)

pub loop-id-preserved : goal.loop-id-preserved
loop-id-preserved c =
    let now = c.loop-id.self in
    let still = c.loop-id.invariant.1 in
    let first = first_r now c.in-Some.id still.performed still.written (sym c.first_r.ensures.first ∙ c.in-Some.is) in
    let goes : goes_on c.answer_r-answer.result ≡ true = grind (arith, c.goes_on.ensures) in
    rw c.answer_r-answer.ensures.state (
      led_step c.args.self.now now c.loop-id.made (AnswerR c.in-Some.id) c.loop-id.invariant.0 c.first_r.ensures.laws first,
      reads_on now c.in-Some.id c.first_r.ensures.laws (rw (← c.answer_r-answer.ensures.state) c.answer_r-answer.ensures.laws.1) still (ap goes_on (sym c.answer_r-answer.ensures.answer) ∙ goes),
    )

pub returns-then-not-goes_on-clause-leads : goal.returns-then-not-goes_on-clause-leads
returns-then-not-goes_on-clause-leads c =
    let now = c.loop-id.self in
    let still = c.loop-id.invariant.1 in
    let first = first_r now c.in-Some.id still.performed still.written (sym c.first_r.ensures.first ∙ c.in-Some.is) in
    rw c.answer_r-answer.ensures.state (led_step c.args.self.now now c.loop-id.made (AnswerR c.in-Some.id) c.loop-id.invariant.0 c.first_r.ensures.laws first)

pub returns-clause-ends : goal.returns-clause-ends
returns-clause-ends c =
    let still = c.loop-id.invariant.1 in
    λ none. none_first c.loop-id.self still.performed still.written (sym c.first_r.ensures.first ∙ c.in_default.is)
