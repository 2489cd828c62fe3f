use Rattle.std.proofs.Common.{rules}
use Rattle.tl_messages.proofs.Operation.has_data.Goals as goal

pub returns-in_default : goal.returns-in_default
returns-in_default c = search rules
