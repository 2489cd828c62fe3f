use Rattle.std.proofs.Common.{rules}
use Rattle.responses.proofs.gather.Gather.reads_that_came.Goals as goal

pub returns : goal.returns
returns c = search rules
