use Rattle.std.proofs.Common.{rules}
use Rattle.score_script.proofs.fills.FillBytes.of.Goals as goal

pub returns-then-is_empty : goal.returns-then-is_empty
returns-then-is_empty c = search rules
