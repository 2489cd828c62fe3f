use Rattle.std.proofs.Common.{rules}
use Rattle.serial_memory.proofs.carrying.answer.Goals as goal

pub returns-in_default-clause-reply : goal.returns-in_default-clause-reply
returns-in_default-clause-reply c = search rules
