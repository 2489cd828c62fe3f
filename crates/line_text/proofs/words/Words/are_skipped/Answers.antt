use Rattle.std.proofs.Common.{rules}
use Rattle.line_text.proofs.words.Words.are_skipped.Goals as goal

pub returns-else-self-eq0 : goal.returns-else-self-eq0
returns-else-self-eq0 c = search rules
