-- The first beat that waits is performed.
use Rattle.std.proofs.Common.{arith, rules}
use Rattle.std.proofs.lemmas.Grind.{elements}
use Rattle.subordinate.proofs.WaitingBeats.{PerformsWaiting, performs_first}
use Rattle.subordinate.proofs.device.Device.perform_first.Goals as goal

performs : (c : goal.After-perform_at) → PerformsWaiting c.args.self.now c.perform_at.new.self c.in-Some.ensures.first.pending.serial c.in-Some.beat
performs c = performs_first c.args.self.now c.perform_at.new.self c.in-Some.place c.in-Some.beat c.in-Some.ensures.first c.in-Some.ensures.laws c.perform_at.ensures.state

pub returns-clause-state : goal.returns-clause-state
returns-clause-state c = rw c.in-Some.ensures.first.first ((performs c).state, (performs c).done)

pub returns-clause-effect : goal.returns-clause-effect
returns-clause-effect c = rw c.in-Some.ensures.first.first (performs c).effect

pub returns-clause-order : goal.returns-clause-order
returns-clause-order c = (performs c).order

pub returns-clause-monitor : goal.returns-clause-monitor
returns-clause-monitor c = (performs c).monitor

pub perform_at-requires-clause-here : goal.perform_at-requires-clause-here
perform_at-requires-clause-here c = grind (arith, elements) steps 2000000

pub returns-in_default-clause-answer : goal.returns-in_default-clause-answer
returns-in_default-clause-answer c = search rules
