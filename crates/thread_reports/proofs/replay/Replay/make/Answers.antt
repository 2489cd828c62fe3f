-- The replay with a step more, by what the step is.
use Rattle.std.proofs.Common.{◌≡◌, ◌∙◌, sym, ap}
use Rattle.std.specs.Prelude.{if◌then◌else◌}
use Rattle.world.specs.World.{after, is_reply, next}
use Rattle.world.specs.declared.Answer.TheVariants.{Reply}
use Rattle.thread_reports.specs.Reports.{items_of}
use Rattle.thread_reports.proofs.FoundLemmas.{found_without_reply}
use Rattle.thread_reports.proofs.ReplaySteps.{found_of_none, own_of_none, replay_grows, told_after}
use Rattle.thread_reports.proofs.replay.Replay.make.Goals as goal

pub returns-in-Offer-clause-grows : goal.returns-in-Offer-clause-grows
returns-in-Offer-clause-grows c start past is =
    replay_grows c.args.self.now c.args.step.now is c.step-answer.result c.step-answer.ensures.answer c.step-answer.ensures.state c.changes_with-self.ensures
    c.accepted_with-self.ensures c.handed_with-self.ensures
    (rw c.in-Offer.is
    (c.offered.ensures start past c.args.receipts.now is.clients (rw c.in-Offer.is at (told_after c.args.self.now c.args.step.now is c.step-answer.ensures.answer))))

pub returns-in-Reply-clause-grows : goal.returns-in-Reply-clause-grows
returns-in-Reply-clause-grows c start past is =
    let told = told_after c.args.self.now c.args.step.now is c.step-answer.ensures.answer in
    let replied : (next (after start past) c.args.step.now).answer ≡ Reply c.in-Reply.number = sym told ∙ c.in-Reply.is in
    let gives : c.step-answer.new.reply ≡ (next (after start past) c.args.step.now).reply =
    c.step-answer.ensures.reply
    ∙ ap (λ answer. if is_reply answer then (next c.args.self.now.world c.args.step.now).reply else c.args.self.now.reply) c.in-Reply.is
    ∙ ap (λ state. (next state c.args.step.now).reply) is.world in
    replay_grows c.args.self.now c.args.step.now is c.step-answer.result c.step-answer.ensures.answer c.step-answer.ensures.state c.changes_with-self.ensures
    c.accepted_with-self.ensures c.handed_with-self.ensures
    (rw c.in-Take.is (c.taken.ensures start past (items_of c.args.scripts.now) is.clients (rw c.in-Take.is at replied) (rw c.in-Take.is at gives)))

pub returns-in_default-answer : goal.returns-in_default-answer
returns-in_default-answer c = record {
  grows =
      λ start past is.
      replay_grows c.args.self.now c.args.step.now is c.step-answer.result c.step-answer.ensures.answer c.step-answer.ensures.state c.changes_with-self.ensures
      c.accepted_with-self.ensures c.handed_with-self.ensures
      (λ client script received of script_is received_is of_is.
      rw c.in-Take.is
      (found_without_reply of c.in-Take.client (is.clients client script received of script_is received_is of_is)
      (λ number replied.
      c.in_default-answer.not-Reply number (told_after c.args.self.now c.args.step.now is c.step-answer.ensures.answer ∙ ap (λ step. (next (after start past) step).answer) c.in-Take.is ∙ replied))));
  laws = c.step-answer.ensures.laws;
}

pub returns-in_default : goal.returns-in_default
returns-in_default c = record {
  grows =
      λ start past is.
      replay_grows c.args.self.now c.args.step.now is c.step-answer.result c.step-answer.ensures.answer c.step-answer.ensures.state c.changes_with-self.ensures
      c.accepted_with-self.ensures c.handed_with-self.ensures
      (found_of_none (items_of c.args.scripts.now) c.args.receipts.now c.args.self.now.found c.args.step.now is.clients (own_of_none c.args.step.now c.in_default.not-Offer c.in_default.not-Take));
  laws = c.step-answer.ensures.laws;
}
