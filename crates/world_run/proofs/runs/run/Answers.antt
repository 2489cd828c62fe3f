-- The record of all steps is that of the run, and the laws hold along it.
use Rattle.std.proofs.Common.{List, subst, sym, take, rules}
use Rattle.std.proofs.lemmas.List.{take_all, take_more}
use Rattle.world.specs.Laws.{AreSoundAlong}
use Rattle.world_run.specs.Runs.{IsRunOf}
use Rattle.setups.specs.Setups.{lists_of, setup_fault}
use Rattle.world.specs.World.{opening_world}
use Rattle.world.specs.declared.Step.{Step}
use Rattle.world_run.proofs.CarriedOut.{run_in_order, run_ordered}
use Rattle.world_run.proofs.RunLoop.{ran_whole, refused_later, sound_after}
use Rattle.world_run.proofs.runs.run.Goals as goal

pub loop-step-preserved : goal.loop-step-preserved
loop-step-preserved c =
    let setup = lists_of c.args.setup.now in
    let ran = c.one_step.new.ran in
    let so_far = take c.loop-step.step-index c.args.steps.now in
    let longer = c.in-Ok-one_step.ensures.grows setup so_far c.loop-step.invariant.0 in
    subst (λ (steps : List Step). IsRunOf setup steps ran.answers.items ran.replies.items ran.d_beats.items ran.sent.items ran.world × AreSoundAlong (opening_world setup) steps)
    (sym (take_more c.args.steps.now c.loop-step.step-index _ c.loop-step-test.true))
    (longer, sound_after so_far _ longer c.loop-step.invariant.1 c.in-Ok-one_step.ensures.laws)

pub returns-clause-shows : goal.returns-clause-shows
returns-clause-shows c = ran_whole c.args.steps.now c.loop-step.step-index c.loop-step-test.false c.loop-step.invariant.0

pub returns-clause-laws : goal.returns-clause-laws
returns-clause-laws c =
    subst (λ (steps : List Step). AreSoundAlong (opening_world (lists_of c.args.setup.now)) steps)
    (take_all c.loop-step.step-index c.args.steps.now c.loop-step-test.false) c.loop-step.invariant.1

pub returns-clause-refused : goal.returns-clause-refused
returns-clause-refused c = refused_later (setup_fault (lists_of c.args.setup.now)) _ _ c.in-Ok.ensures.refused

pub returns-in_default-clause-refused : goal.returns-in_default-clause-refused
returns-in_default-clause-refused c = refused_later (setup_fault (lists_of c.args.setup.now)) _ _ c.in-Ok.ensures.refused

pub returns-in_default-with_capacity-clause-refused : goal.returns-in_default-with_capacity-clause-refused
returns-in_default-with_capacity-clause-refused c = refused_later (setup_fault (lists_of c.args.setup.now)) _ _ c.in-Ok.ensures.refused

pub returns-in_default-one_step-clause-refused : goal.returns-in_default-one_step-clause-refused
returns-in_default-one_step-clause-refused c = refused_later (setup_fault (lists_of c.args.setup.now)) _ _ c.in-Ok.ensures.refused

pub returns-clause-one_at_a_time : goal.returns-clause-one_at_a_time
returns-clause-one_at_a_time c =
    run_in_order (lists_of c.args.setup.now) c.args.steps.now c.loop-step.ran.answers.items c.loop-step.ran.replies.items c.loop-step.ran.d_beats.items c.loop-step.ran.sent.items c.loop-step.ran.world
    (subst (λ (steps : List Step). AreSoundAlong (opening_world (lists_of c.args.setup.now)) steps) (take_all c.loop-step.step-index c.args.steps.now c.loop-step-test.false) c.loop-step.invariant.1)
    (ran_whole c.args.steps.now c.loop-step.step-index c.loop-step-test.false c.loop-step.invariant.0)

pub returns-clause-in_order : goal.returns-clause-in_order
returns-clause-in_order c =
    run_ordered (lists_of c.args.setup.now) c.args.steps.now c.loop-step.ran.answers.items c.loop-step.ran.replies.items c.loop-step.ran.d_beats.items c.loop-step.ran.sent.items c.loop-step.ran.world
    (subst (λ (steps : List Step). AreSoundAlong (opening_world (lists_of c.args.setup.now)) steps) (take_all c.loop-step.step-index c.args.steps.now c.loop-step-test.false) c.loop-step.invariant.1)
    (ran_whole c.args.steps.now c.loop-step.step-index c.loop-step-test.false c.loop-step.invariant.0)

pub returns-in-Err-clause-refused : goal.returns-in-Err-clause-refused
returns-in-Err-clause-refused c = search rules

pub returns-in-Err-clause-want : goal.returns-in-Err-clause-want
returns-in-Err-clause-want c = c.in-Err.ensures.want
