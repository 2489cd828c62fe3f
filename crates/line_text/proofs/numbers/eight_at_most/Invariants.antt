use Rattle.std.proofs.Common.{take}
use Rattle.line_text.proofs.NumberLaws.{AreRead}
use Rattle.line_text.proofs.numbers.eight_at_most.Given as goal

abbrev pub invariant-loop-byte : goal.invariant-loop-byte
invariant-loop-byte l = AreRead (take l.byte-index l.word) l.byte-index l.value
