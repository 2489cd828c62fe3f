use Rattle.std.proofs.Common.{rules}
use Rattle.bridge_threads.proofs.threads.mismatched.Goals as goal

pub returns : goal.returns
returns c = search rules
