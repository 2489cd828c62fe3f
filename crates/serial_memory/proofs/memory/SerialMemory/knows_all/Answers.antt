use Rattle.std.proofs.Common.{rules}
use Rattle.serial_memory.proofs.memory.SerialMemory.knows_all.Goals as goal

pub returns : goal.returns
returns c = search rules
