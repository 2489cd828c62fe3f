use Rattle.std.proofs.Common.{rules}
use Rattle.bridge_threads.proofs.threads.prepare.Goals as goal

pub returns-clause-shared : goal.returns-clause-shared
returns-clause-shared c = search rules
