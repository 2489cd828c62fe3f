use Rattle.std.proofs.Common.{◌≡◌, take, true}
use Rattle.std.specs.List.{list_all}
use Rattle.line_text.specs.Words.{is_plain_byte}
use Rattle.line_text.proofs.plain.plain_from.Given as goal

abbrev pub invariant-loop-place : goal.invariant-loop-place
invariant-loop-place l = list_all is_plain_byte (take l.place l.bytes) ≡ true
