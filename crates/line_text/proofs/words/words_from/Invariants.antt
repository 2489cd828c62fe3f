use Rattle.std.proofs.Common.{◌≡◌, ◌≢◌, ◌≤◌, ◌<◌, ◌+◌, ◌-◌, drop, get_or, length}
use Rattle.line_text.specs.Words.{words_of}
use Rattle.line_text.proofs.words.words_from.Given as goal

abbrev pub decreases-loop-start : goal.decreases-loop-start
decreases-loop-start l = length l.line - l.start

abbrev pub invariant-loop-start : goal.invariant-loop-start
invariant-loop-start l =
    record {
      within : l.start ≤ length l.line;
      found : l.start < length l.line → get_or l.line l.start 0 ≢ 32;
      counted : l.count + length (words_of (drop l.start l.line)) ≡ length (words_of (drop l.at l.line));
    }
