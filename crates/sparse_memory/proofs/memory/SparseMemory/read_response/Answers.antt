use Rattle.std.proofs.Common.{rules}
use Rattle.sparse_memory.proofs.memory.SparseMemory.read_response.Goals as goal

pub returns-in-Okay-clause-value : goal.returns-in-Okay-clause-value
returns-in-Okay-clause-value c = search rules

pub returns-in_default-clause-value : goal.returns-in_default-clause-value
returns-in_default-clause-value c = search rules
