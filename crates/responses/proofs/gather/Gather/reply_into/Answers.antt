-- The beats of the words show the reply.
use Rattle.std.proofs.Common.{◌≡◌, true, length, arith, subst, sym, ◌∙◌, rules}
use Rattle.tl_messages.specs.Operations.{reply_has_data}
use Rattle.responses.specs.Gathered.{GatherState, words_of}
use Rattle.axi_beats.specs.Transfers.{IsBusWidth}
use Rattle.responses.proofs.AnswerLaws.{shows_answers}
use Rattle.responses.proofs.ReplyBytes.{shows_gathered}
use Rattle.responses.proofs.ShownLaws.{reply_made}
use Rattle.responses.proofs.gather.Gather.reply_into.Goals as goal

pub returns-then-reply_has_data-clause-shown : goal.returns-then-reply_has_data-clause-shown
returns-then-reply_has_data-clause-shown c = λ q same.
    let (has, many) =
    subst (λ (s : GatherState). (reply_has_data s.outline.operation ≡ true) × (length s.gathering.words ≡ words_of s.outline)) c.self.view_is
    (sym c.reply_has_data.ensures ∙ c.if-reply_has_data.true, omega (arith, c.self.inside.words.ok, c.self.invariant.1)) in
    c.show_words.ensures ∙ reply_made q c.args.self.now.outline c.args.self.now.gathering same has many

pub returns-then-reply_has_data-clause-right : goal.returns-then-reply_has_data-clause-right
returns-then-reply_has_data-clause-right c = λ q same. shows_gathered q c.args.self.now.outline c.args.self.now.gathering _ same (returns-then-reply_has_data-clause-shown c q same)

pub returns-then-reply_has_data-clause-answers : goal.returns-then-reply_has_data-clause-answers
returns-then-reply_has_data-clause-answers c = λ q same.
    shows_answers c.args.self.now q _ (subst (λ (s : GatherState). IsBusWidth s.bus_bytes) c.self.view_is c.self.invariant.3) same (returns-then-reply_has_data-clause-shown c q same)

pub returns-else-reply_has_data-clause-shown : goal.returns-else-reply_has_data-clause-shown
returns-else-reply_has_data-clause-shown c = search rules

pub returns-else-reply_has_data-clause-right : goal.returns-else-reply_has_data-clause-right
returns-else-reply_has_data-clause-right c = λ q same. shows_gathered q c.args.self.now.outline c.args.self.now.gathering _ same (returns-else-reply_has_data-clause-shown c q same)

pub returns-else-reply_has_data-clause-answers : goal.returns-else-reply_has_data-clause-answers
returns-else-reply_has_data-clause-answers c = λ q same.
    shows_answers c.args.self.now q _ (subst (λ (s : GatherState). IsBusWidth s.bus_bytes) c.self.view_is c.self.invariant.3) same (returns-else-reply_has_data-clause-shown c q same)
