-- Each line says one command, which is carried out.
use Rattle.std.proofs.Common.{rules}
use Rattle.world.specs.declared.Step.TheVariants as step
use Rattle.run_script.specs.Run.{Event, Mem}
use Rattle.run_script.proofs.script.line.Goals as goal

pub returns-in_ok-client-in-Offer : goal.returns-in_ok-client-in-Offer
returns-in_ok-client-in-Offer g c =
    (Event (step.Offer c.in_ok-client-in-Offer.client c.in_ok-client-in-Offer.beat), search rules, c.event-written.ensures.text, c.event-written.ensures.state)

pub returns-in_ok-end-in-Pump : goal.returns-in_ok-end-in-Pump
returns-in_ok-end-in-Pump g c = (Event step.Pump, search rules, c.event-written-in-Pump.ensures.text, c.event-written-in-Pump.ensures.state)

pub returns-in_ok-perform-in-Perform : goal.returns-in_ok-perform-in-Perform
returns-in_ok-perform-in-Perform g c =
    (Event c.in_ok-perform-in-Perform.field-0, search rules, c.event-written-in-Perform.ensures.text, c.event-written-in-Perform.ensures.state)

pub returns-in_ok-one_byte-in-AnswerB : goal.returns-in_ok-one_byte-in-AnswerB
returns-in_ok-one_byte-in-AnswerB g c =
    (Event (step.AnswerB c.in_ok-one_byte-in-AnswerB.field-0), search rules, c.event-written-in-AnswerB.ensures.text, c.event-written-in-AnswerB.ensures.state)

pub returns-in_ok-one_byte-in-AnswerR : goal.returns-in_ok-one_byte-in-AnswerR
returns-in_ok-one_byte-in-AnswerR g c =
    (Event (step.AnswerR c.in_ok-one_byte-in-AnswerR.field-0), search rules, c.event-written-in-AnswerR.ensures.text, c.event-written-in-AnswerR.ensures.state)

pub returns-in_ok-one_byte-in-Take : goal.returns-in_ok-one_byte-in-Take
returns-in_ok-one_byte-in-Take g c =
    (Event (step.Take c.in_ok-one_byte-in-Take.field-0), search rules, c.event-written-in-Take.ensures.text, c.event-written-in-Take.ensures.state)

pub returns-in_ok-mem-in-Mem : goal.returns-in_ok-mem-in-Mem
returns-in_ok-mem-in-Mem g c = (Mem c.in_ok-mem-in-Mem.field-0, search rules, search rules, search rules)
