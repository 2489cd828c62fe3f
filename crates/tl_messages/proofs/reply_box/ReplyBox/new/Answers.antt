use Rattle.std.proofs.Common.{rules}
use Rattle.tl_messages.proofs.reply_box.ReplyBox.new.Goals as goal

pub invariant_of-result : goal.invariant_of-result
invariant_of-result c = search rules
