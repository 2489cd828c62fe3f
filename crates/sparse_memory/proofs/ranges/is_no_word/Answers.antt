use Rattle.sparse_memory.proofs.RangeLaws.{no_word}
use Rattle.sparse_memory.proofs.ranges.is_no_word.Goals as goal

pub returns-else-not-is_multiple_of : goal.returns-else-not-is_multiple_of
returns-else-not-is_multiple_of c = no_word c.args.ranges.now c.args.word c.is_good_page.result c.is_good_page.ensures (c.is_multiple_of.ensures.0 c.if-not-is_multiple_of.false)
