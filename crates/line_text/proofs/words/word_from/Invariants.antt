use Rattle.std.proofs.Common.{◌≡◌, drop}
use Rattle.line_text.specs.Words.{words_of}
use Rattle.line_text.proofs.words.word_from.Given as goal

abbrev pub invariant-loop-place : goal.invariant-loop-place
invariant-loop-place l = words_of (drop l.at l.line) ≡ words_of (drop l.place l.line)
