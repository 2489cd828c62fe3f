use Rattle.std.proofs.Common.{rules}
use Rattle.bus_words.proofs.flag_text.Goals as goal

pub returns-then-flag : goal.returns-then-flag
returns-then-flag c = search rules
