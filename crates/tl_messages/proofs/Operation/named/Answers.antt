use Rattle.std.proofs.Common.{rules}
use Rattle.tl_messages.proofs.Operation.named.Goals as goal

pub returns-in_default-6 : goal.returns-in_default-6
returns-in_default-6 c = search rules
