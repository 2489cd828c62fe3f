use Rattle.std.proofs.Common.{arith}
use Rattle.flight_table.proofs.StepWorth.{worth_answered, worth_sent}
use Rattle.flight_table.proofs.live_request.LiveRequest.worth.Goals as goal

pub returns-in-Sent : goal.returns-in-Sent
returns-in-Sent c =
    let may = rw c.in-Sent.is at c.requires in
    rw c.in-Sent.is (worth_sent c.args.self.now c.in-Sent.field-0 c.each.result may.0 may.1 c.each.ensures.each)

pub returns-in-Answered : goal.returns-in-Answered
returns-in-Answered c = grind (arith, c.requires, c.if-self.false, c.each-in-Answered.ensures.each, worth_answered c.args.self.now c.each-in-Answered.result)
