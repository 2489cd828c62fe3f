-- An answer that breaks no rule belongs to the request that holds its ID.
use Rattle.std.proofs.Common.{arith}
use Rattle.std.proofs.lemmas.Grind.{common_steps}
use Rattle.std.proofs.Common.{◌≡◌, None, refl, subst}
use Rattle.axi_checker.specs.declared.AxiBeat.TheVariants.{B as OnB}
use Rattle.bridge_core.specs.Bridge.{BridgeState, after_b_beat, b_fault}
use Rattle.bridge_core.specs.Laws.{IsSoundBridge, IsSoundRequestTable}
use Rattle.bridge_core.proofs.BridgeSteps.{awaits_b, sound_response, state_in, unbroken}
use Rattle.bridge_core.proofs.bridge.Bridge.on_b.Goals as goal

pub on_b-requires : goal.on_b-requires
on_b-requires c =
    let i = c.self.inside in
    let state : BridgeState = state_in i.ports.items i.requests i.monitor.open_bursts in
    awaits_b state c.args.beat.now c.self.invariant.0 (unbroken state i.monitor.port (OnB c.args.beat.now) c.in_ok-b.field-0 c.self.invariant.2 c.in_ok-b.ensures.answer)

sound : (c : goal.After-on_b) → IsSoundBridge (after_b_beat (state_in c.self.inside.ports.items c.self.inside.requests c.self.inside.monitor.open_bursts) c.args.beat.now)
sound c =
    let i = c.self.inside in
    let state : BridgeState = state_in i.ports.items i.requests i.monitor.open_bursts in
    let none : b_fault state c.args.beat.now ≡ None = unbroken state i.monitor.port (OnB c.args.beat.now) c.in_ok-b.field-0 c.self.invariant.2 c.in_ok-b.ensures.answer in
    sound_response state c.args.beat.now c.self.invariant.0 none (subst IsSoundRequestTable c.on_b.ensures.table c.on_b.ensures.laws)

pub invariant_of-self-2 : goal.invariant_of-self-2
invariant_of-self-2 c =
    let i = c.self.invariant in
    rw (c.on_b.ensures.table, c.in_ok-b.ensures.taken refl) (sound c, i.1, i.2, i.3, i.4)

pub returns-clause-laws : goal.returns-clause-laws
returns-clause-laws c = rw (c.on_b.ensures.table, c.in_ok-b.ensures.taken refl) (sound c)

pub returns-in_err-b-clause-answer : goal.returns-in_err-b-clause-answer
returns-in_err-b-clause-answer c = grind (arith, common_steps)
