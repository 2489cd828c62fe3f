use Rattle.std.proofs.Common.{◌≡◌}
use Rattle.call_words.specs.CallWords.{first_bytes}
use Rattle.call_words.proofs.bytes.bytes_of.Given as goal

abbrev pub invariant-loop-place : goal.invariant-loop-place
invariant-loop-place l = l.bytes.items ≡ first_bytes l.words l.place
