use Rattle.std.proofs.Common.{rules}
use Rattle.line_text.proofs.words.Words.new.Goals as goal

pub invariant_of-result : goal.invariant_of-result
invariant_of-result c = search rules
