use Rattle.std.proofs.Common.{rules}
use Rattle.line_text.proofs.words.Words.byte.Goals as goal

pub overflow_cast-result : goal.overflow_cast-result
overflow_cast-result c = search rules
