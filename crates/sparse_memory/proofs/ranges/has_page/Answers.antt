use Rattle.std.proofs.Common.{rules}
use Rattle.sparse_memory.proofs.ranges.has_page.Goals as goal

pub returns-then-range-number : goal.returns-then-range-number
returns-then-range-number c = search rules
