use Rattle.script_text.proofs.StageSteps.{opens_as}
use Rattle.setups.specs.Setups.{lists_of}
use Rattle.world.specs.World.{WorldState, opening_world}
use Rattle.run_script.proofs.script.RunScriptKind.open.Goals as goal

pub returns : goal.returns
returns c = opens_as (λ (world : WorldState). world) (opening_world (lists_of c.args.setup.now)) (lists_of c.args.setup.now) c.new.result c.new.ensures.refused c.new.ensures.want c.new.ensures.opens
