use Rattle.std.proofs.Common.{arith}
use Rattle.std.proofs.lemmas.Grind.{elements}
use Rattle.bridge_core.proofs.ports.accept.Goals as goal

pub accept-requires-clause-whole : goal.accept-requires-clause-whole
accept-requires-clause-whole c = grind (arith, elements) steps 2000000

pub accept-requires-clause-client : goal.accept-requires-clause-client
accept-requires-clause-client c = grind (arith, elements) steps 2000000

pub accept-requires-clause-limits : goal.accept-requires-clause-limits
accept-requires-clause-limits c = grind (arith, elements) steps 2000000

pub accept-requires-clause-room : goal.accept-requires-clause-room
accept-requires-clause-room c = grind (arith, elements) steps 2000000

pub accept-requires-clause-source : goal.accept-requires-clause-source
accept-requires-clause-source c = grind (arith, elements) steps 2000000

pub returns-clause-table : goal.returns-clause-table
returns-clause-table c = grind (arith, elements) steps 2000000

pub returns-clause-ports : goal.returns-clause-ports
returns-clause-ports c = grind (arith, elements) steps 2000000
