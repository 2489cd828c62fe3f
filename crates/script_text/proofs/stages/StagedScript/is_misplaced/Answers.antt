use Rattle.std.proofs.Common.{rules}
use Rattle.script_text.proofs.stages.StagedScript.is_misplaced.Goals as goal

pub returns-after-matches : goal.returns-after-matches
returns-after-matches g c = search rules
