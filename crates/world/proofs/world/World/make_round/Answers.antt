-- One part of the round leads on to the next.
use Rattle.std.proofs.Common.{◌+◌, arith}
use Rattle.world.proofs.Drained.{led_few, led_on}
use Rattle.world.proofs.world.World.make_round.Goals as goal

pub overflow_add-result : goal.overflow_add-result
overflow_add-result c =
    let performed = led_on c.pump_all-pumps.result c.perform_all-performs.result c.args.self.now c.pump_all-pumps.new.self c.perform_all-performs.new.self c.pump_all-pumps.ensures.leads c.perform_all-performs.ensures.leads in
    omega (arith, led_few (c.pump_all-pumps.result + c.perform_all-performs.result) c.args.self.now c.perform_all-performs.new.self performed)

pub overflow_add-result-2 : goal.overflow_add-result-2
overflow_add-result-2 c =
    let performed = led_on c.pump_all-pumps.result c.perform_all-performs.result c.args.self.now c.pump_all-pumps.new.self c.perform_all-performs.new.self c.pump_all-pumps.ensures.leads c.perform_all-performs.ensures.leads in
    let answered = led_on (c.pump_all-pumps.result + c.perform_all-performs.result) c.answer_some-answers.result c.args.self.now c.perform_all-performs.new.self c.answer_some-answers.new.self performed c.answer_some-answers.ensures.leads in
    omega (arith, led_few (c.pump_all-pumps.result + c.perform_all-performs.result + c.answer_some-answers.result) c.args.self.now c.answer_some-answers.new.self answered)

pub returns-clause-leads : goal.returns-clause-leads
returns-clause-leads c =
    let performed = led_on c.pump_all-pumps.result c.perform_all-performs.result c.args.self.now c.pump_all-pumps.new.self c.perform_all-performs.new.self c.pump_all-pumps.ensures.leads c.perform_all-performs.ensures.leads in
    led_on (c.pump_all-pumps.result + c.perform_all-performs.result) c.answer_some-answers.result c.args.self.now c.perform_all-performs.new.self c.answer_some-answers.new.self performed c.answer_some-answers.ensures.leads

pub returns-clause-ends : goal.returns-clause-ends
returns-clause-ends c = λ none. c.answer_some-answers.ensures.ends (omega (arith, none))
