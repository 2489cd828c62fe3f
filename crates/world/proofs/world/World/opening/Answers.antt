-- Bridge and memory agree at first.
use Rattle.std.proofs.Common.{rules}
use Rattle.world.proofs.Taking.{device_made, paired_opening}
use Rattle.world.proofs.world.World.opening.Goals as goal

pub invariant_of-result : goal.invariant_of-result
invariant_of-result c = (paired_opening c.args.setup.now.config _ _ _ c.in-Ok-new.bridge c.in-Ok-new-2.device c.in-Ok-new.ensures.ok (device_made _ c.in-Ok-new-2.device _ c.in-Ok-new-2.ensures.state) c.in-Ok-new.ensures.laws c.in-Ok-new-2.ensures.laws, c.in_ok-empty.ensures)

pub returns : goal.returns
returns c = search rules
