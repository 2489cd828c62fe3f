use Rattle.std.proofs.Common.{rules}
use Rattle.sparse_memory.proofs.memory.SparseMemory.page_of.Goals as goal

pub returns-clause-page : goal.returns-clause-page
returns-clause-page c = search rules
