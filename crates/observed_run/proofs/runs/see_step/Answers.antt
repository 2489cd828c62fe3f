-- What the step's answer, burst and reply show is what the step does.
use Rattle.std.proofs.Common.{◌++◌, List, ◌∙◌, ap}
use Rattle.std.proofs.lemmas.Result.{on_ok_weaker}
use Rattle.scoreboard.specs.declared.ObservedBeat.{ObservedBeat}
use Rattle.observed_run.proofs.SeenSteps.{seen_answered}
use Rattle.observed_run.proofs.runs.see_step.Goals as goal

pub returns-clause-beats : goal.returns-clause-beats
returns-clause-beats c =
    on_ok_weaker c.see_answer.result
    (λ shows. shows ∙ ap (λ (beats : List ObservedBeat). c.args.seen.now.items ++ beats)
    (seen_answered c.args.world.now _ c.args.step.now _ _ c.args.reply.now _ c.step-answer.ensures.answer c.step-answer.ensures.state c.last_burst.ensures c.step-answer.ensures.reply))
    c.see_answer.ensures.beats
