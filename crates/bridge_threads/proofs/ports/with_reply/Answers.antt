use Rattle.std.proofs.Common.{rules}
use Rattle.bridge_threads.proofs.ports.with_reply.Goals as goal

pub returns-clause-beats : goal.returns-clause-beats
returns-clause-beats c = search rules
