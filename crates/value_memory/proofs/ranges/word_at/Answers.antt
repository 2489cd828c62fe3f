-- Each word lies in the range's page, so that its address has 32 bits.
use Rattle.std.proofs.Common.{arith}
use Rattle.value_memory.proofs.RangeWords.{word_in_page}
use Rattle.value_memory.proofs.ranges.word_at.Goals as goal

pub overflow_add-result : goal.overflow_add-result
overflow_add-result c = omega (arith, word_in_page c.args.range c.args.place c.requires.range c.requires.place)

pub returns-clause-page : goal.returns-clause-page
returns-clause-page c = word_in_page c.args.range c.args.place c.requires.range c.requires.place
