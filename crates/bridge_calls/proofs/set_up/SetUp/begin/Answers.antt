-- The world of the set-up is in order.
use Rattle.std.proofs.Common.{◌+◌, Ok, ap, subst}
use Rattle.setups.specs.Setups.{SetupLists}
use Rattle.script_text.specs.Stages.{Stage}
use Rattle.bridge_calls.proofs.SetUpLines.{opens_in_order}
use Rattle.bridge_calls.specs.Bridges.{BridgeState}
use Rattle.bridge_calls.specs.SetUps.{OpensInOrder, stage_in}
use Rattle.bridge_calls.specs.contracts.set_up.SetUp.{the_view}
use Rattle.bridge_calls.proofs.set_up.SetUp.begin.Goals as goal

pub returns-clause-order : goal.returns-clause-order
returns-clause-order c =
    let bridge = c.in_ok-bridge.bridge in
    subst (λ (s : Stage SetupLists (Unit {0}) BridgeState). OpensInOrder s (Ok bridge)) (ap stage_in c.self.view_is)
    (opens_in_order (stage_in (the_view c.self.inside)) (c.self.inside.number + 1) (Ok bridge) c.in_ok-bridge.ensures.world)
