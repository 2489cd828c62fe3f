use Rattle.std.proofs.Common.{rules}
use Rattle.line_text.proofs.trace_lines.refused_text.Goals as goal

pub returns : goal.returns
returns c = search rules
