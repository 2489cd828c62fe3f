-- Each kind of step is counted by itself.
use Rattle.std.proofs.Common.{◌≡◌, ◌≤◌, ◌∙◌, ap, arith, length}
use Rattle.std.specs.Prelude.{is_some}
use Rattle.bridge_core.specs.Bridge.{burst_to_send}
use Rattle.subordinate.specs.FreeMemory.{waiting_beats}
use Rattle.world.proofs.OpenWork.{waiting_few}
use Rattle.world.specs.Choices.{answers_enabled}
use Rattle.world.specs.World.{WorldState, enabled}
use Rattle.world.proofs.EnabledSteps.{all_counted, answers_counted, pump_byte, pump_count, pump_most}
use Rattle.world.proofs.world.World.choices.Goals as goal

pumps : (c : goal.After-pending) → c.from-pumps.result ≡ pump_count (is_some (burst_to_send c.self.inside.bridge.state))
pumps c = c.from-pumps.ensures ∙ pump_byte c.can_pump.result ∙ ap pump_count c.can_pump.ensures.burst

few_beats : (c : goal.After-pending) → c.pending.result ≤ 65536
few_beats c = omega (arith, c.pending.ensures, waiting_few c.self.inside.device.memory c.self.invariant.0.agree.memory_laws)

pub overflow_add-result : goal.overflow_add-result
overflow_add-result c = omega (arith, pumps c, pump_most (is_some (burst_to_send c.self.inside.bridge.state)), few_beats c)

pub overflow_add-result-2 : goal.overflow_add-result-2
overflow_add-result-2 c =
    omega (
      arith,
      pumps c,
      pump_most (is_some (burst_to_send c.self.inside.bridge.state)),
      few_beats c,
      c.from.ensures,
      c.count_b.ensures.most,
      c.from-2.ensures,
      c.count_r.ensures.most,
    )

pub returns : goal.returns
returns c =
    let memory = c.self.inside.device.memory in
    let pump = is_some (burst_to_send c.self.inside.bridge.state) in
    omega (
      arith,
      pumps c,
      c.pending.ensures,
      c.from.ensures,
      c.count_b.ensures.count,
      c.from-2.ensures,
      c.count_r.ensures.count,
      all_counted pump (waiting_beats memory) (answers_enabled memory),
      answers_counted memory,
      ap (λ (state : WorldState). length (enabled state)) c.self.view_is,
    )
