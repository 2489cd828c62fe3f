use Rattle.std.proofs.Common.{rules}
use Rattle.tl_messages.proofs.Operation.param.Goals as goal

pub returns-in-Add : goal.returns-in-Add
returns-in-Add c = search rules
