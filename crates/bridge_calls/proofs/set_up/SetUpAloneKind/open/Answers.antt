use Rattle.script_text.proofs.StageSteps.{opens_as}
use Rattle.setups.specs.Setups.{lists_of}
use Rattle.bridge_calls.specs.Bridges.{BridgeState, opening_bridge}
use Rattle.bridge_calls.proofs.set_up.SetUpAloneKind.open.Goals as goal

pub returns : goal.returns
returns c =
    opens_as (λ (bridge : BridgeState). bridge) (opening_bridge (lists_of c.args.setup.now)) (lists_of c.args.setup.now) c.new.result c.new.ensures.refused c.new.ensures.want c.new.ensures.opens
