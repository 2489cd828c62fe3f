use Rattle.std.proofs.Common.{rules}
use Rattle.serial_memory.proofs.memory.SerialMemory.new.Goals as goal

pub new-requires : goal.new-requires
new-requires c = search rules

pub returns-clause-memory : goal.returns-clause-memory
returns-clause-memory c = search rules
