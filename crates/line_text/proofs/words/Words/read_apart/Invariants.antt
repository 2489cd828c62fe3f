use Rattle.std.proofs.Common.{◌≡◌, ◌≢◌, ◌≤◌, ◌<◌, ℕ, drop, get_or, length}
use Rattle.line_text.specs.Words.{IsPlace, words_of}
use Rattle.line_text.proofs.words.Words.read_apart.Given as goal

abbrev pub invariant-loop-count : goal.invariant-loop-count
invariant-loop-count l =
    record {
      line : l.self-inside.line.now ≡ l.line;
      room_s : length l.self-inside.starts ≡ 16;
      room_e : length l.self-inside.ends ≡ 16;
      within : l.start ≤ length l.line;
      found : l.start < length l.line → get_or l.line l.start 0 ≢ 32;
      places : (k : ℕ) → k < l.count → IsPlace l.line l.self-inside.starts l.self-inside.ends k;
      rest : drop l.count (words_of l.line) ≡ words_of (drop l.start l.line);
      counted : l.count ≤ length (words_of l.line);
    }
