use Rattle.std.proofs.Common.{rules}
use Rattle.tl_messages.proofs.request.Request.beats.Goals as goal

pub returns : goal.returns
returns c = search rules
