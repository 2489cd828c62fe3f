use Rattle.std.proofs.Common.{rules}
use Rattle.tl_messages.proofs.operations.beats_of.Goals as goal

pub returns-then-has_data : goal.returns-then-has_data
returns-then-has_data c = search rules
