use Rattle.std.proofs.Common.{rules}
use Rattle.responses.proofs.gather.Gather.new.Goals as goal

pub returns : goal.returns
returns c = search rules
