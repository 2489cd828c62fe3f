use Rattle.std.proofs.Common.{rules}
use Rattle.serial_memory.proofs.memory.SerialMemory.place_if_sound.Goals as goal

pub returns-clause-place : goal.returns-clause-place
returns-clause-place c = search rules
