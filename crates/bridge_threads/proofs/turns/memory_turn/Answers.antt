use Rattle.std.proofs.Common.{rules}
use Rattle.bridge_threads.proofs.turns.memory_turn.Goals as goal

pub returns-clause-held : goal.returns-clause-held
returns-clause-held c = search rules
