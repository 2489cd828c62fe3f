use Rattle.std.proofs.Common.{rules}
use Rattle.bridge_threads.proofs.threads.confirmed.Goals as goal

pub returns-in-GateShut-clause-shut : goal.returns-in-GateShut-clause-shut
returns-in-GateShut-clause-shut c = search rules
