use Rattle.std.proofs.Common.{rules}
use Rattle.sparse_memory.proofs.ranges.is_good_page.Goals as goal

pub returns-after-matches : goal.returns-after-matches
returns-after-matches c = search rules
