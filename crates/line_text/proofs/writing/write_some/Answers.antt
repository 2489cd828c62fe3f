use Rattle.std.proofs.Common.{rules}
use Rattle.line_text.proofs.writing.write_some.Goals as goal

pub returns-in-Err-2-clause-retried : goal.returns-in-Err-2-clause-retried
returns-in-Err-2-clause-retried g c = search rules
