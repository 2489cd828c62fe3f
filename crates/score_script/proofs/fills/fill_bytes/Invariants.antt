use Rattle.std.proofs.Common.{◌≡◌, ◌+◌, ◌-◌}
use Rattle.line_text.specs.Fields.{first_wrong}
use Rattle.score_script.specs.FillLines.{fill_byte_fields, fill_bytes_in}
use Rattle.score_script.proofs.fills.fill_bytes.Given as goal

abbrev pub invariant-loop-k : goal.invariant-loop-k
invariant-loop-k l =
    (l.bytes ≡ fill_bytes_in l.words l.k) × (first_wrong (fill_byte_fields (l.count - l.k)) l.words (3 + l.k) ≡ first_wrong (fill_byte_fields l.count) l.words 3)
