use Rattle.std.proofs.Common.{rules}
use Rattle.line_text.proofs.trace_lines.reply_line.Goals as goal

pub returns-clause-all : goal.returns-clause-all
returns-clause-all g c = search rules
