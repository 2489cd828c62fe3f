use Rattle.std.proofs.Common.{rules}
use Rattle.tl_messages.proofs.request.Request.corrupt.Goals as goal

pub returns : goal.returns
returns c = search rules
