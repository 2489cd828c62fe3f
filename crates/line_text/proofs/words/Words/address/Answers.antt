use Rattle.std.proofs.Common.{rules}
use Rattle.line_text.proofs.words.Words.address.Goals as goal

pub returns : goal.returns
returns c = search rules
