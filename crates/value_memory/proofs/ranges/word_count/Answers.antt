-- As many words as bytes fill, the last perhaps in part.
use Rattle.std.proofs.Common.{arith}
use Rattle.value_memory.proofs.RangeWords.{few_bytes, words_filled}
use Rattle.value_memory.proofs.ranges.word_count.Goals as goal

pub returns : goal.returns
returns c = grind (arith, words_filled c.args.range.size c.requires.small, few_bytes c.args.range.size c.requires.small)
