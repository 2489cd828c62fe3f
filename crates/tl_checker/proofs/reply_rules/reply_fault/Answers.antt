use Rattle.std.proofs.Common.{rules}
use Rattle.tl_checker.proofs.reply_rules.reply_fault.Goals as goal

pub returns-then-beats-from : goal.returns-then-beats-from
returns-then-beats-from c = search rules
