use Rattle.std.proofs.Common.{rules}
use Rattle.tl_messages.proofs.request.Request.client.Goals as goal

pub returns : goal.returns
returns c = search rules
