use Rattle.std.proofs.Common.{rules}
use Rattle.axi_checker.proofs.long_queue.LongQueueEntries.remove.Goals as goal

pub returns-clause-items : goal.returns-clause-items
returns-clause-items g c = search rules
