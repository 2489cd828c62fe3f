use Rattle.std.proofs.Common.{rules}
use Rattle.sparse_memory.proofs.memory.SparseMemory.is_unknown.Goals as goal

pub returns-in-Some : goal.returns-in-Some
returns-in-Some c = search rules
