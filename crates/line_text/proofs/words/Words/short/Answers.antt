use Rattle.std.proofs.Common.{rules}
use Rattle.line_text.proofs.words.Words.short.Goals as goal

pub returns-in_err-dec : goal.returns-in_err-dec
returns-in_err-dec c = search rules
