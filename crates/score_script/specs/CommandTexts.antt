-- An observation that ends has text.
use Rattle.std.proofs.Common.{◌≢◌, ℕ, [], Option, rules}
use Rattle.line_text.proofs.TraceTexts.{some_after}
use Rattle.score_script.specs.FindingTexts.{last_text, optional_text}
use Rattle.score_script.specs.Scores.{Score, closing, score_kind, settling}
use Rattle.score_script.specs.declared.findings.Finding.{Finding}
use Rattle.script_text.specs.Stages.{GivesSome}

last_some : (judged wrong outstanding left_open compared told : ℕ) → last_text judged wrong outstanding left_open compared told ≢ []
last_some judged wrong outstanding left_open compared told none = search rules

closing_some : (settled : Option Finding × Score) → (closing settled).0 ≢ []
closing_some settled = some_after (optional_text settled.0) _ (last_some _ _ _ _ _ _)

pub score_gives : GivesSome score_kind
score_gives score number command given is = some_after given.0 _ (closing_some (settling given.1))
