-- The step that is looked for is the Pump, one of the beats that wait, or one of the answers.
use Rattle.std.proofs.Common.{◌≡◌, ◌-◌, ◌≤◌, ◌∙◌, ap, arith, length, sym}
use Rattle.std.proofs.lemmas.Grind.{elements}
use Rattle.std.specs.Prelude.{is_some, slice_get}
use Rattle.bridge_core.specs.Bridge.{burst_to_send}
use Rattle.subordinate.specs.FreeMemory.{waiting_beats}
use Rattle.world.specs.Choices.{answers_enabled}
use Rattle.world.specs.World.{WorldState, enabled}
use Rattle.world.proofs.EnabledSteps.{all_counted, answer_found, pump_byte, pump_count}
use Rattle.world.proofs.world.World.choose.Goals as goal

pub answer_at-requires : goal.answer_at-requires
answer_at-requires c =
    let memory = c.self.inside.device.memory in
    let pump = is_some (burst_to_send c.self.inside.bridge.state) in
    let pumps : c.from-pumps.result ≡ pump_count pump = c.from-pumps.ensures ∙ pump_byte c.can_pump.result ∙ ap pump_count c.can_pump.ensures.burst in
    omega (
      arith,
      pumps,
      c.pending-performs.ensures,
      c.if-k-pumps.false,
      c.if-place-performs.false,
      all_counted pump (waiting_beats memory) (answers_enabled memory),
      ap (λ (state : WorldState). length (enabled state)) c.self.view_is,
      c.requires,
    )

pub returns : goal.returns
returns c =
    let memory = c.self.inside.device.memory in
    let pump = is_some (burst_to_send c.self.inside.bridge.state) in
    let pumps : c.from-pumps.result ≡ pump_count pump = c.from-pumps.ensures ∙ pump_byte c.can_pump.result ∙ ap pump_count c.can_pump.ensures.burst in
    let past : pump_count pump ≤ c.args.k = omega (arith, pumps, c.if-k-pumps.false) in
    let more : length (waiting_beats memory) ≤ c.args.k - pump_count pump = omega (arith, pumps, c.pending-performs.ensures, c.if-place-performs.false) in
    let place : c.args.k - c.from-pumps.result - c.pending-performs.result ≡ c.args.k - pump_count pump - length (waiting_beats memory) = omega (arith, pumps, c.pending-performs.ensures) in
    ap (λ (state : WorldState). slice_get (enabled state) c.args.k) (sym c.self.view_is)
    ∙ answer_found pump (waiting_beats memory) (answers_enabled memory) c.args.k past more
    ∙ ap (slice_get (answers_enabled memory)) (sym place)
    ∙ c.answer_at.ensures

pub returns-then-place-performs : goal.returns-then-place-performs
returns-then-place-performs c = grind (arith, elements) steps 2000000
