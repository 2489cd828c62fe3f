-- The first answer is the first step, where no request is ready and no beat waits.
use Rattle.std.proofs.Common.{◌≡◌, ◌∙◌, sym}
use Rattle.std.specs.Prelude.{slice_get, Some}
use Rattle.world.specs.World.{enabled}
use Rattle.world.specs.declared.Step.TheVariants.{AnswerB}
use Rattle.world.proofs.FirstSteps.{first_b}
use Rattle.world.proofs.world.World.answer_some.Goals as goal

pub returns-clause-leads : goal.returns-clause-leads
returns-clause-leads c =
    let first : slice_get (enabled c.args.self.now) 0 ≡ Some (AnswerB c.in-Some.id) = first_b c.args.self.now c.in-Some.id c.requires (sym c.first_b.ensures ∙ c.in-Some.is) in
    (AnswerB c.in-Some.id, c.answer_b.ensures.laws.0, first, c.answer_b.ensures.state)
