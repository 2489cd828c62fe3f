use Rattle.std.proofs.Common.{rules}
use Rattle.tl_messages.proofs.Operation.reply_opcode.Goals as goal

pub returns-in-Intent : goal.returns-in-Intent
returns-in-Intent c = search rules
