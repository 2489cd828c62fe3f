-- What was seen is what all steps show, and it is right.
use Rattle.std.proofs.Common.{List, subst, sym, take, rules}
use Rattle.std.proofs.lemmas.List.{take_more}
use Rattle.setups.specs.Setups.{lists_of, setup_fault}
use Rattle.world.specs.declared.Step.{Step}
use Rattle.world_run.proofs.RunLoop.{refused_later}
use Rattle.scoreboard.specs.Boards.{from_zeros}
use Rattle.scoreboard.specs.Right.{IsRight}
use Rattle.observed_run.proofs.RunsSeen.{observed_right}
use Rattle.observed_run.proofs.SeenSteps.{HasSeen, seen_more, seen_whole}
use Rattle.observed_run.proofs.runs.observed.Goals as goal

pub loop-step-preserved : goal.loop-step-preserved
loop-step-preserved c =
    let setup = lists_of c.args.setup.now in
    let so_far = take c.loop-step.step-index c.args.steps.now in
    subst (λ (events : List Step). HasSeen setup events c.see_step.new.seen.items c.see_step.new.world)
    (sym (take_more c.args.steps.now c.loop-step.step-index _ c.loop-step-test.true))
    (seen_more setup so_far _ _ _ _ _ c.loop-step.invariant c.in-Ok-see_step.ensures.beats c.see_step.ensures.state c.see_step.ensures.laws)

pub returns-clause-shows : goal.returns-clause-shows
returns-clause-shows c = (seen_whole (lists_of c.args.setup.now) c.args.steps.now c.loop-step.step-index _ _ c.loop-step-test.false c.loop-step.invariant).shown

pub returns-clause-right : goal.returns-clause-right
returns-clause-right c =
    let setup = lists_of c.args.setup.now in
    let has = seen_whole setup c.args.steps.now c.loop-step.step-index _ _ c.loop-step-test.false c.loop-step.invariant in
    subst (IsRight (from_zeros setup)) (sym has.shown) (observed_right setup c.args.steps.now has.along)

pub returns-clause-refused : goal.returns-clause-refused
returns-clause-refused c = refused_later (setup_fault (lists_of c.args.setup.now)) _ _ c.in-Ok.ensures.refused

pub returns-in_default-clause-refused : goal.returns-in_default-clause-refused
returns-in_default-clause-refused c = refused_later (setup_fault (lists_of c.args.setup.now)) _ _ c.in-Ok.ensures.refused

pub returns-in_default-see_step-clause-refused : goal.returns-in_default-see_step-clause-refused
returns-in_default-see_step-clause-refused c = refused_later (setup_fault (lists_of c.args.setup.now)) _ _ c.in-Ok.ensures.refused

pub returns-in-Err-clause-refused : goal.returns-in-Err-clause-refused
returns-in-Err-clause-refused c = search rules

pub returns-in-Err-clause-want : goal.returns-in-Err-clause-want
returns-in-Err-clause-want c = c.in-Err.ensures.want
