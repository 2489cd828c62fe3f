use Rattle.std.proofs.Common.{◌≡◌, ◌≢◌, ◌≤◌, ◌<◌, drop, get_or, length}
use Rattle.line_text.specs.Words.{words_of}
use Rattle.line_text.proofs.words.word_behind.Given as goal

abbrev pub invariant-loop : goal.invariant-loop
invariant-loop l =
    record {
      within : l.start ≤ length l.line;
      found : l.start < length l.line → get_or l.line l.start 0 ≢ 32;
      rest : drop l.counter (words_of l.line) ≡ words_of (drop l.start l.line);
    }
