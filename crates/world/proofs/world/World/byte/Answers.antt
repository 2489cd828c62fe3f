use Rattle.std.proofs.Common.{rules}
use Rattle.world.proofs.world.World.byte.Goals as goal

pub returns : goal.returns
returns c = search rules
