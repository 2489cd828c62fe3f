-- The replay of all steps, and the laws along them.
use Rattle.std.proofs.Common.{List, subst, sym, take}
use Rattle.std.proofs.lemmas.List.{take_all, take_more}
use Rattle.world.specs.Laws.{AreSoundAlong, IsSoundWorld}
use Rattle.world.specs.declared.Step.{Step}
use Rattle.world_run.proofs.RunLoop.{sound_next}
use Rattle.thread_reports.specs.Replays.{IsReplay}
use Rattle.thread_reports.specs.Reports.{items_of}
use Rattle.thread_reports.proofs.replay.Replay.make_all.Goals as goal

pub loop-step-preserved : goal.loop-step-preserved
loop-step-preserved c =
    let so_far = take c.loop-step.step-index c.args.steps.now in (
      λ start is.
          subst (λ (steps : List Step). IsReplay start steps (items_of c.args.scripts.now) c.args.receipts.now c.make.new.self)
          (sym (take_more c.args.steps.now c.loop-step.step-index _ c.loop-step-test.true)) (c.make.ensures.grows start so_far (c.loop-step.invariant.0 start is)),
      λ start is sound.
          let longer = c.make.ensures.grows start so_far (c.loop-step.invariant.0 start is) in
          subst (λ (steps : List Step). AreSoundAlong start steps) (sym (take_more c.args.steps.now c.loop-step.step-index _ c.loop-step-test.true))
          (sound_next start so_far _ (c.loop-step.invariant.1 start is sound) (subst IsSoundWorld longer.world c.make.ensures.laws)),
    )

pub returns-clause-replays : goal.returns-clause-replays
returns-clause-replays c start is =
    subst (λ (steps : List Step). IsReplay start steps (items_of c.args.scripts.now) c.args.receipts.now c.loop-step.self)
    (take_all c.loop-step.step-index c.args.steps.now c.loop-step-test.false) (c.loop-step.invariant.0 start is)
