use Rattle.std.proofs.Common.{rules}
use Rattle.serial_memory.proofs.memory.SerialMemory.if_good.Goals as goal

pub returns-clause-place : goal.returns-clause-place
returns-clause-place c = search rules

pub returns-clause-good : goal.returns-clause-good
returns-clause-good c = search rules

pub returns-then-not-is_good-clause-place : goal.returns-then-not-is_good-clause-place
returns-then-not-is_good-clause-place c = search rules
