-- The burst that was sent last is open under its serial.
use Rattle.std.proofs.Common.{◌∙◌, ap}
use Rattle.bridge_core.specs.Bridge.{burst_to_send}
use Rattle.world.specs.Inside.{world_state}
use Rattle.world.specs.World.{WorldState, pumped}
use Rattle.world.proofs.Passing.{pumped_state}
use Rattle.world.proofs.world.World.pump.Goals as goal

pub returns-clause-state : goal.returns-clause-state
returns-clause-state c =
    pumped_state (world_state c.self.inside.bridge c.self.inside.device c.self.inside.last_sent) c.send.new.bridge c.send.new.device c.in-Some.serial c.self.invariant.0.agree.memory_laws.rising
    (burst_to_send c.self.inside.bridge.state) c.in-Some.ensures.sent (λ none. (c.in-Some.ensures.idle none).0)
    ∙ ap (λ (s : WorldState). (pumped s (burst_to_send s.bridge)).state) c.self.view_is
