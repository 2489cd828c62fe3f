use Rattle.std.proofs.Common.{◌≡◌, ◌≤◌, ◌<◌, ℕ, length}
use Rattle.line_text.specs.Words.{IsPlace, words_of}
use Rattle.line_text.proofs.EdgePlaces.{IsAhead}
use Rattle.line_text.proofs.words.Words.read_together.Given as goal

abbrev pub invariant-loop-count : goal.invariant-loop-count
invariant-loop-count l =
    record {
      line : l.self-inside.line.now ≡ l.line;
      room_s : length l.self-inside.starts ≡ 16;
      room_e : length l.self-inside.ends ≡ 16;
      places : (k : ℕ) → k < l.count → IsPlace l.line l.self-inside.starts l.self-inside.ends k;
      ahead : IsAhead l.line l.count l.end l.edges;
      counted : l.count ≤ length (words_of l.line);
    }
