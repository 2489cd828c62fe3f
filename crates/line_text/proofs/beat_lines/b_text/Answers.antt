use Rattle.std.proofs.Common.{rules}
use Rattle.line_text.proofs.beat_lines.b_text.Goals as goal

pub returns : goal.returns
returns c = search rules
