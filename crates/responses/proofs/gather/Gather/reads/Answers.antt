use Rattle.std.proofs.Common.{rules}
use Rattle.responses.proofs.gather.Gather.reads.Goals as goal

pub returns-after-self-eq8 : goal.returns-after-self-eq8
returns-after-self-eq8 c = search rules
