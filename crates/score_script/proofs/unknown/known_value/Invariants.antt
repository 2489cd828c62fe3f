use Rattle.std.proofs.Common.{◌≡◌, true, take}
use Rattle.std.specs.Str.Parse.{digits_value}
use Rattle.line_text.proofs.NumberLaws.{all_digits}
use Rattle.score_script.specs.UnknownDigits.{known_word}
use Rattle.score_script.proofs.unknown.known_value.Given as goal

abbrev pub invariant-loop-byte : goal.invariant-loop-byte
invariant-loop-byte l = (all_digits 16 (take l.byte-index (known_word l.word)) ≡ true) × (l.value ≡ digits_value 16 (take l.byte-index (known_word l.word)))
