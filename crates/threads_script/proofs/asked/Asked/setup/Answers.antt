use Rattle.std.proofs.Common.{rules}
use Rattle.threads_script.proofs.asked.Asked.setup.Goals as goal

pub returns : goal.returns
returns c = search rules
