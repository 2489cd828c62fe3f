use Rattle.std.proofs.Common.{rules}
use Rattle.tl_messages.proofs.request.Request.size.Goals as goal

pub returns-clause-value : goal.returns-clause-value
returns-clause-value c = search rules
