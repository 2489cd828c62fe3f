use Rattle.std.proofs.Common.{rules}
use Rattle.bridge_threads.proofs.turns.client_move.Goals as goal

pub returns-in-Some : goal.returns-in-Some
returns-in-Some c = search rules
