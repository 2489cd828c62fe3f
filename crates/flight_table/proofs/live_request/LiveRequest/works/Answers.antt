use Rattle.std.proofs.Common.{◌≡◌, ◌-◌, ap, arith, length}
use Rattle.flight_table.specs.LiveRequests.{LiveRequest, planned}
use Rattle.flight_table.proofs.PhaseLaws.{undone_unsent, undone_work}
use Rattle.flight_table.proofs.live_request.LiveRequest.works.Goals as goal

unsent : (c : goal.After-saturating_sub-unanswered) → c.saturating_sub-unsent.result ≡ length (planned c.args.self.now) - c.args.self.now.sent
unsent c = omega (arith, ap (λ (r : LiveRequest). r.sent) c.self.view_is, c.planned.ensures.count)

unanswered : (c : goal.After-saturating_sub-unanswered) → c.saturating_sub-unanswered.result ≡ length (planned c.args.self.now) - c.args.self.now.answered
unanswered c = omega (arith, ap (λ (r : LiveRequest). r.answered) c.self.view_is, c.planned.ensures.count)

pub returns-clause-work : goal.returns-clause-work
returns-clause-work c = grind (arith, c.later_work-later.ensures.work, c.if-self.false, c.each-each.ensures.each, undone_work c.args.self.now c.each-each.result)

pub returns-clause-unsent : goal.returns-clause-unsent
returns-clause-unsent c = grind (arith, c.later_work-later.ensures.work, c.if-self.false, c.each-each.ensures.each, undone_unsent c.args.self.now c.each-each.result)
