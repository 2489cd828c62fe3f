use Rattle.std.proofs.Common.{◌≡◌, true, take}
use Rattle.std.specs.Str.Parse.{digits_value}
use Rattle.line_text.proofs.NumberLaws.{all_digits}
use Rattle.line_text.proofs.numbers.value_of.Given as goal

abbrev pub invariant-loop-byte : goal.invariant-loop-byte
invariant-loop-byte l = (all_digits l.radix (take l.byte-index l.word) ≡ true) × (l.value ≡ digits_value l.radix (take l.byte-index l.word))
