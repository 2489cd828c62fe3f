use Rattle.std.proofs.Common.{rules}
use Rattle.serial_memory.proofs.memory.SerialMemory.make_room.Goals as goal

pub returns-clause-rooms : goal.returns-clause-rooms
returns-clause-rooms c = search rules
