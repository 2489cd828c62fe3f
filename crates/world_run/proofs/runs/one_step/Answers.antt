-- The record after a step, by what the step answers: it sent a burst, handed out a reply, or did neither.
use Rattle.std.proofs.lemmas.Result.{on_ok_weaker}
use Rattle.world_run.proofs.RunLoop.{grows_sent, grows_quiet, grows_taken, on_ok_both}
use Rattle.world_run.proofs.runs.one_step.Goals as goal

pub returns-in-Sent-clause-grows : goal.returns-in-Sent-clause-grows
returns-in-Sent-clause-grows c =
    on_ok_weaker c.keep_burst.result
    (λ sends setup before ran.
    grows_sent c.args.step.now ran c.in-Sent.field-0 c.ordered_step-answer.ensures.answer c.in-Sent.is c.in_ok-put.ensures.items c.ordered_step-answer.ensures.state
    (rw c.last_burst.ensures at sends))
    c.keep_burst.ensures.beats

pub returns-in-Sent-clause-laws : goal.returns-in-Sent-clause-laws
returns-in-Sent-clause-laws c = on_ok_weaker c.keep_burst.result (λ sends. c.ordered_step-answer.ensures.laws) c.keep_burst.ensures.beats

pub returns-in_default-answer : goal.returns-in_default-answer
returns-in_default-answer c = record {
  want = tt;
  grows =
      λ setup before ran.
      grows_quiet c.args.step.now ran c.ordered_step-answer.ensures.answer c.in_default.not-Sent (λ client number takes replied. c.in_default-answer.not-Reply number replied)
      c.in_ok-put.ensures.items c.ordered_step-answer.ensures.state;
  laws = c.ordered_step-answer.ensures.laws;
}

pub returns-in_default-step : goal.returns-in_default-step
returns-in_default-step c = record {
  want = tt;
  grows =
      λ setup before ran.
      grows_quiet c.args.step.now ran c.ordered_step-answer.ensures.answer c.in_default.not-Sent (λ client number takes replied. c.in_default-step.not-Take client takes)
      c.in_ok-put.ensures.items c.ordered_step-answer.ensures.state;
  laws = c.ordered_step-answer.ensures.laws;
}

pub returns : goal.returns
returns c = record {
  want = c.keep_reply.ensures.want;
  grows =
      on_ok_both c.keep_reply.result c.keep_reply.ensures.replies c.keep_reply.ensures.beats
      (λ handed longer setup before ran.
      grows_taken c.args.step.now ran c.args.reply.now c.in-Take.client c.in-Reply.number c.ordered_step-answer.ensures.answer c.in-Reply.is c.in-Take.is c.ordered_step-answer.ensures.reply
      c.in_ok-put.ensures.items c.ordered_step-answer.ensures.state handed longer);
  laws = on_ok_both c.keep_reply.result c.keep_reply.ensures.replies c.keep_reply.ensures.beats (λ handed longer. c.ordered_step-answer.ensures.laws);
}
