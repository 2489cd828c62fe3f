-- Each Pump that sends a burst is the first step that is enabled.
use Rattle.std.proofs.Common.{◌≡◌, ◌∙◌, true, false, refl, ap, arith, sym, subst}
use Rattle.std.specs.Prelude.{None, is_some}
use Rattle.bridge_core.specs.Bridge.{burst_to_send}
use Rattle.world.specs.Choices.{LeadsTo, is_sent}
use Rattle.world.specs.World.{WorldState}
use Rattle.world.specs.declared.Step.TheVariants.{Pump}
use Rattle.world.proofs.Drained.{led_few, led_step, step_less}
use Rattle.world.proofs.FirstSteps.{first_pump, pump_tells, unpumped}
use Rattle.world.proofs.world.World.pump_all.Goals as goal

pub loop-made-init : goal.loop-made-init
loop-made-init c = refl

pub overflow_add-made : goal.overflow_add-made
overflow_add-made c = omega (arith, led_few c.loop-made.made c.args.self.now c.loop-made.self c.loop-made.invariant)

pub loop-made-smaller : goal.loop-made-smaller
loop-made-smaller c =
    let goes : is_some (burst_to_send c.loop-made.self.bridge) ≡ true = sym (pump_tells c.loop-made.self (burst_to_send c.loop-made.self.bridge)) ∙ ap is_sent (sym c.pump.ensures.answer) ∙ grind (arith, c.is_sent.ensures) in
    rw c.pump.ensures.state (step_less c.loop-made.self Pump c.pump.ensures.laws.0 (first_pump c.loop-made.self goes))

pub loop-made-preserved : goal.loop-made-preserved
loop-made-preserved c =
    let goes : is_some (burst_to_send c.loop-made.self.bridge) ≡ true = sym (pump_tells c.loop-made.self (burst_to_send c.loop-made.self.bridge)) ∙ ap is_sent (sym c.pump.ensures.answer) ∙ grind (arith, c.is_sent.ensures) in
    rw c.pump.ensures.state (led_step c.args.self.now c.loop-made.self c.loop-made.made Pump c.loop-made.invariant c.pump.ensures.laws.0 (first_pump c.loop-made.self goes))

pub returns-clause-leads : goal.returns-clause-leads
returns-clause-leads c =
    let stays : is_sent c.pump.result ≡ false = grind (arith, c.is_sent.ensures) in
    let still = unpumped c.loop-made.self (ap is_sent (sym c.pump.ensures.answer) ∙ stays) in
    subst (λ (state : WorldState). LeadsTo c.args.self.now c.loop-made.made state) (sym (c.pump.ensures.state ∙ still.1)) c.loop-made.invariant

pub returns-clause-idle : goal.returns-clause-idle
returns-clause-idle c =
    let stays : is_sent c.pump.result ≡ false = grind (arith, c.is_sent.ensures) in
    let still = unpumped c.loop-made.self (ap is_sent (sym c.pump.ensures.answer) ∙ stays) in
    subst (λ (state : WorldState). burst_to_send state.bridge ≡ None) (sym (c.pump.ensures.state ∙ still.1)) still.0
