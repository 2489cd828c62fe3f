use Rattle.std.proofs.Common.{rules}
use Rattle.line_text.proofs.words.Words.at.Goals as goal

pub returns-then-place-ge-HELD : goal.returns-then-place-ge-HELD
returns-then-place-ge-HELD c = search rules
