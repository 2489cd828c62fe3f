-- The request of the smallest number that is done leaves, and nothing else changes.
use Rattle.std.proofs.Common.{arith}
use Rattle.std.proofs.lemmas.Grind.{common_steps}
use Rattle.std.proofs.Common.{◌∙◌, refl, sym}
use Rattle.bridge_core.specs.Laws.{IsSoundBridge}
use Rattle.bridge_core.proofs.BridgeSteps.{sound_taken, state_in}
use Rattle.bridge_core.proofs.Pumps.{takes_smallest}
use Rattle.bridge_core.proofs.bridge.Bridge.take.Goals as goal

sound : (c : goal.In-Some) → IsSoundBridge (state_in c.self.inside.ports.items c.take.new.self c.self.inside.monitor.open_bursts)
sound c =
    let i = c.self.inside in
    let taken = c.take.ensures.table (rw c.in-Some.is refl) in
    rw taken (sound_taken (state_in i.ports.items i.requests i.monitor.open_bursts) c.args.client c.self.invariant.0 (rw taken at c.take.ensures.laws))

pub invariant_of-self-2 : goal.invariant_of-self-2
invariant_of-self-2 c =
    let taken = c.take.ensures.table (rw c.in-Some.is refl) in
    (sound c, rw taken c.self.invariant.1, rw taken c.self.invariant.2, rw taken c.self.invariant.3, rw taken c.self.invariant.4)

pub returns-clause-smallest : goal.returns-clause-smallest
returns-clause-smallest c =
    let i = c.self.inside in
    rw (← c.self.view_is) (takes_smallest (state_in i.ports.items i.requests i.monitor.open_bursts) c.args.client c.in-Some.number c.self.invariant.0.requests (sym c.in-Some.is ∙ c.take.ensures.number))

pub returns-clause-laws : goal.returns-clause-laws
returns-clause-laws c = sound c

pub returns-in_default-clause-answer : goal.returns-in_default-clause-answer
returns-in_default-clause-answer c = grind (arith, common_steps)

pub returns-in_default-clause-smallest : goal.returns-in_default-clause-smallest
returns-in_default-clause-smallest c = grind (arith, common_steps)

pub returns-in_default-clause-shown : goal.returns-in_default-clause-shown
returns-in_default-clause-shown c = grind (arith, common_steps)

pub returns-in_default-clause-right : goal.returns-in_default-clause-right
returns-in_default-clause-right c = grind (arith, common_steps)

pub returns-in_default-clause-left : goal.returns-in_default-clause-left
returns-in_default-clause-left c = grind (arith, common_steps)

pub returns-clause-answer : goal.returns-clause-answer
returns-clause-answer c = grind (arith, common_steps)

pub returns-clause-shown : goal.returns-clause-shown
returns-clause-shown c = grind (arith, common_steps)

pub returns-clause-right : goal.returns-clause-right
returns-clause-right c = grind (arith, common_steps)

pub returns-clause-kept : goal.returns-clause-kept
returns-clause-kept c = grind (arith, common_steps)
