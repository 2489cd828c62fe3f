use Rattle.std.proofs.Common.{rules}
use Rattle.line_text.proofs.trace_lines.mem_line.Goals as goal

pub returns-in-None-clause-all : goal.returns-in-None-clause-all
returns-in-None-clause-all g c = search rules
