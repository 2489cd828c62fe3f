-- The fields so far stand: the first wrong word is that of those from here on.
use Rattle.std.proofs.Common.{◌≡◌, ◌+◌, drop, map}
use Rattle.line_text.specs.Fields.{first_wrong}
use Rattle.score_script.specs.ObservedLines.{field_test, loose}
use Rattle.score_script.proofs.lines.fields_stand.Given as goal

abbrev pub invariant-loop-field : goal.invariant-loop-field
invariant-loop-field l =
    (l.n ≡ l.from + l.field-index) × (first_wrong (loose (map field_test (drop l.field-index l.fields))) l.words l.n ≡ first_wrong (loose (map field_test l.fields)) l.words l.from)
