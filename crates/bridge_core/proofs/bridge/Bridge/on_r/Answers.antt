-- An answer that breaks no rule belongs to the request that holds its ID.
use Rattle.std.proofs.Common.{◌≡◌, None, Ok, Err, arith, refl, subst}
use Rattle.std.specs.Prelude.{MatchOption}
use Rattle.axi_checker.specs.declared.AxiBeat.TheVariants.{R as OnR}
use Rattle.axi_checker.specs.Rules.{AxiPortLimits, axi_fault}
use Rattle.bridge_core.specs.Bridge.{BridgeState, after_r_beat, r_fault}
use Rattle.bridge_core.specs.Laws.{IsSoundBridge, IsSoundRequestTable}
use Rattle.bridge_core.proofs.BridgeSteps.{awaits_r, sound_read, state_in, unbroken}
use Rattle.bridge_core.proofs.bridge.Bridge.on_r.Goals as goal

pub on_r-requires : goal.on_r-requires
on_r-requires c =
    let i = c.self.inside in
    let state : BridgeState = state_in i.ports.items i.requests i.monitor.open_bursts in
    awaits_r state c.args.beat.now c.self.invariant.0 (unbroken state i.monitor.port (OnR c.args.beat.now) c.in_ok-r.field-0 c.self.invariant.2 c.in_ok-r.ensures.answer)

sound : (c : goal.After-on_r) → IsSoundBridge (after_r_beat (state_in c.self.inside.ports.items c.self.inside.requests c.self.inside.monitor.open_bursts) c.args.beat.now)
sound c =
    let i = c.self.inside in
    let state : BridgeState = state_in i.ports.items i.requests i.monitor.open_bursts in
    let none : r_fault state c.args.beat.now ≡ None = unbroken state i.monitor.port (OnR c.args.beat.now) c.in_ok-r.field-0 c.self.invariant.2 c.in_ok-r.ensures.answer in
    sound_read state c.args.beat.now c.self.invariant.0 none (subst IsSoundRequestTable c.on_r.ensures.table c.on_r.ensures.laws)

pub invariant_of-self-2 : goal.invariant_of-self-2
invariant_of-self-2 c =
    let i = c.self.invariant in
    rw (c.on_r.ensures.table, c.in_ok-r.ensures.taken refl) (sound c, i.1, i.2, i.3, i.4)

pub returns-clause-laws : goal.returns-clause-laws
returns-clause-laws c = rw (c.on_r.ensures.table, c.in_ok-r.ensures.taken refl) (sound c)

pub returns-in_err-r-clause-answer : goal.returns-in_err-r-clause-answer
returns-in_err-r-clause-answer c =
    rw (← c.self.view_is)
    (subst (λ (port : AxiPortLimits). MatchOption (axi_fault port c.self.inside.monitor.open_bursts (OnR c.args.beat.now)) (c.from_residual.result ≡ Ok tt) (λ rule. c.from_residual.result ≡ Err rule)) c.self.invariant.2
    (grind (arith, c.in_err-r.ensures.answer, c.from_residual.ensures)))
