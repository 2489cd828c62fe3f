use Rattle.std.proofs.Common.{rules}
use Rattle.tl_messages.proofs.reply_box.ReplyBox.clear.Goals as goal

pub returns : goal.returns
returns c = search rules
