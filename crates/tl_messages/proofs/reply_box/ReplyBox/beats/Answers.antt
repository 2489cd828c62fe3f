use Rattle.std.proofs.Common.{rules}
use Rattle.tl_messages.proofs.reply_box.ReplyBox.beats.Goals as goal

pub returns : goal.returns
returns c = search rules
