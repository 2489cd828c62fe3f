use Rattle.std.proofs.Common.{rules}
use Rattle.world.proofs.world.World.answer_r.Goals as goal

pub returns-in_default-clause-state : goal.returns-in_default-clause-state
returns-in_default-clause-state c = search rules
