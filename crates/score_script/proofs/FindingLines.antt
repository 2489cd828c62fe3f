-- Each finding has a line.
use Rattle.std.proofs.Common.{◌≢◌, ℕ, [], Option, Some, None, rules}
use Rattle.score_script.specs.FindingTexts.{finding_text, line_end, wrong_words}
use Rattle.score_script.specs.declared.findings.Finding.{Finding}
use Rattle.score_script.specs.declared.findings.Finding.TheVariants.{Beat, Byte}
use Rattle.line_text.proofs.TraceTexts.{some_after}

pub end_some : (time : Option ℕ) → line_end time ≢ []
end_some None none = search rules
end_some (Some time) none = search rules

some : (finding : Finding) → finding_text finding ≢ []
some (Beat line client wrong) none = some_after (wrong_words line.number client wrong) (line_end line.time) (end_some line.time) none
some (Byte None) none = search rules
some (Byte (Some byte)) none = search rules
