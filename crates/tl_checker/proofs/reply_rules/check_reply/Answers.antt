-- A reply breaks no rule, and what breaks none is a reply.
use Rattle.std.proofs.Common.{◌≡◌, None, Some, refl, sym, ◌∙◌}
use Rattle.tl_messages.specs.Requests.{request_of}
use Rattle.tl_checker.specs.ReplyRules.{reply_fault}
use Rattle.tl_checker.proofs.ReplyLaws.{reply_exact}
use Rattle.tl_checker.proofs.reply_rules.check_reply.Goals as goal

pub returns-in-Some-clause-exact : goal.returns-in-Some-clause-exact
returns-in-Some-clause-exact c =
    let clash : reply_fault (request_of c.args.request.now) c.args.beats.now ≡ None → ⊥ = λ none.
    let both : None ≡ Some c.in-Some.rule = sym none ∙ sym c.reply_fault.ensures ∙ c.in-Some.is in absurd (cc) in
    ((λ same. absurd (cc)), (λ reply. absurd (clash ((reply_exact (request_of c.args.request.now) c.args.beats.now).1 reply))))

pub returns-in-None-clause-exact : goal.returns-in-None-clause-exact
returns-in-None-clause-exact c = ((λ same. (reply_exact (request_of c.args.request.now) c.args.beats.now).0 (sym c.reply_fault.ensures ∙ c.in-None.is)), (λ reply. refl))
