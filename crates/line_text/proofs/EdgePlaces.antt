-- From the places at which words begin and end to the words of a line.
use Rattle.std.proofs.Common.{◌≡◌, ◌≢◌, ◌≤◌, ◌<◌, ℕ, zero, suc, ◌+◌, ◌-◌, ◌%◌, ◌*◌, ◌^◌, nat_lt, Bool, true, false, List, length, drop, get_or, bit_and, bit_xor, w64, refl, sym, ap, ◌∙◌, arith}
use Rattle.std.proofs.lemmas.Bool.Decides.{nat_tests}
use Rattle.std.proofs.lemmas.List.{drop_all, get_or_default, get_or_past}
use Rattle.std.specs.Int.{bit_at, trailing_zeros}
use Rattle.line_text.proofs.WordEdges.{AreEdges, NextEdge, bit_of, first_edges, next_edge, no_edge}
use Rattle.line_text.proofs.WordPlaces.{all_counted, words_of-space}
use Rattle.line_text.specs.Words.{is_in_word, words_of}

space_at : (line : List ℕ) (k : ℕ) → is_in_word line k ≡ false → get_or line k 32 ≡ 32
space_at line k none = grind (arith, nat_tests, none)

byte_at : (line : List ℕ) (k : ℕ) → is_in_word line k ≡ true → (k < length line) × (get_or line k 0 ≢ 32)
byte_at line k word = (inside (nat_lt k (length line)) refl, λ space. other (sym (get_or_default line k 0 32 (inside (nat_lt k (length line)) refl)) ∙ space))
  where
    other : get_or line k 32 ≢ 32
    other same = grind (arith, nat_tests, word, same)

    inside : (test : Bool) → nat_lt k (length line) ≡ test → k < length line
    inside true is = grind (arith, nat_tests, is)
    inside false past = let over : length line ≤ k = grind (arith, nat_tests, past) in absurd (other (get_or_past line k 32 over))

-- spaces in front are no word
skip : (line : List ℕ) (count from : ℕ) → from + count ≤ length line → ((k : ℕ) → from ≤ k → k < from + count → is_in_word line k ≡ false) → words_of (drop from line) ≡ words_of (drop (from + count) line)
skip line zero from within none = ap (λ n. words_of (drop n line)) (omega arith)
skip line (suc count) from within none =
    let inside : from < length line = omega (arith, within) in
    let on : (from + 1) + count ≡ from + suc count = omega arith in
    words_of-space line from inside (get_or_default line from 0 32 inside ∙ space_at line from (none from (omega arith) (omega arith)))
    ∙ skip line count (from + 1) (omega (arith, within)) (λ k above below. none k (omega (arith, above)) (omega (arith, below)))
    ∙ ap (λ n. words_of (drop n line)) on

skip_to : (line : List ℕ) (from to : ℕ) → from ≤ to → to ≤ length line → ((k : ℕ) → from ≤ k → k < to → is_in_word line k ≡ false) → words_of (drop from line) ≡ words_of (drop to line)
skip_to line from to order within none = grind (arith, order, within, none, skip line (to - from) from (omega (arith, order, within)))

behind_word : (line : List ℕ) (end : ℕ) → end ≤ length line → is_in_word line end ≡ false → words_of (drop end line) ≡ words_of (drop (suc end) line)
behind_word line end within none = by_end (nat_lt end (length line)) refl
  where
    by_end : (test : Bool) → nat_lt end (length line) ≡ test → words_of (drop end line) ≡ words_of (drop (suc end) line)
    by_end true is =
        let inside : end < length line = grind (arith, nat_tests, is) in
        let on : end + 1 ≡ suc end = omega arith in
        words_of-space line end inside (get_or_default line end 0 32 inside ∙ space_at line end none) ∙ ap (λ n. words_of (drop n line)) on
    by_end false over = let past : length line ≤ end = grind (arith, nat_tests, over) in ap words_of (drop_all end line past ∙ sym (drop_all (suc end) line (omega (arith, past))))

-- the edges behind the words that were read, of which the last ends at a place
pub record IsAhead (line : List ℕ) (count end edges : ℕ) : Type 0 where
  pub from : ℕ
  pub are : AreEdges (is_in_word line) false from edges
  pub within : end ≤ length line
  pub same : words_of (drop end line) ≡ words_of (drop from line)
  pub rest : drop count (words_of line) ≡ words_of (drop from line)

pub ahead_first : (line : List ℕ) (mask : ℕ) → ((k : ℕ) → bit_at mask k ≡ bit_of (is_in_word line k)) → mask < 2 ^ 63 → IsAhead line 0 0 (bit_xor mask (mask * 2 % 2 ^ 64))
ahead_first line mask bits small = record { from = 0; are = first_edges (is_in_word line) mask bits small; within = omega arith; same = refl; rest = refl }

-- where there are no more of them, all words were read
pub ahead_none : (line : List ℕ) (count end edges : ℕ) → length line ≤ 63 → IsAhead line count end edges → edges ≡ 0 → length (words_of line) ≤ count
ahead_none line count end edges short ahead none = by_from (nat_lt ahead.from (length line)) refl
  where
    by_from : (test : Bool) → nat_lt ahead.from (length line) ≡ test → length (words_of line) ≤ count
    by_from true is =
        let inside : ahead.from < length line = grind (arith, nat_tests, is) in
        all_counted line count (length line)
        (ahead.rest ∙ skip_to line ahead.from (length line) (omega (arith, inside)) (omega arith) (λ k on to. no_edge (is_in_word line) false ahead.from edges ahead.are none k on (omega (arith, to, short))))
        (omega arith)
    by_from false over = all_counted line count ahead.from ahead.rest (grind (arith, nat_tests, over))

-- the next word, and the edges behind it
pub record NextPlaces (line : List ℕ) (count start end others : ℕ) : Type 0 where
  pub rest : drop count (words_of line) ≡ words_of (drop start line)
  pub inside : start < length line
  pub byte : get_or line start 0 ≢ 32
  pub ends : (start ≤ end) × (end ≤ length line)
  pub lacks : (k : ℕ) → start ≤ k → k < end → get_or line k 0 ≢ 32
  pub found : end < length line → get_or line end 0 ≡ 32
  pub from : ℕ
  pub are : AreEdges (is_in_word line) false from others
  pub same : words_of (drop end line) ≡ words_of (drop from line)

module _ (line : List ℕ) (short : length line ≤ 63) (count last edges : ℕ) (ahead : IsAhead line count last edges) (more : 0 < edges) where
  begins : NextEdge (is_in_word line) false ahead.from (trailing_zeros w64 edges) (bit_and edges (edges - 1))
  begins = next_edge (is_in_word line) false ahead.from edges ahead.are more

  -- a word that begins has an end
  pub ends_too : 0 < bit_and edges (edges - 1)
  ends_too = by_count (trailing_zeros w64 edges) (bit_and edges (edges - 1)) begins
    where
      by_count : (start others : ℕ) → NextEdge (is_in_word line) false ahead.from start others → 0 < others
      by_count start zero begin =
          let inside = (byte_at line start begin.turns).0 in
          let past = (byte_at line (length line) (no_edge (is_in_word line) true (suc start) 0 begin.others refl (length line) inside (omega (arith, short)))).0 in absurd (omega (arith, past))
      by_count start (suc n) begin = omega arith

  pub next_places : NextPlaces line count (trailing_zeros w64 edges) (trailing_zeros w64 (bit_and edges (edges - 1))) (bit_and (bit_and edges (edges - 1)) (bit_and edges (edges - 1) - 1))
  next_places = by_ends (trailing_zeros w64 edges) _ _ _ begins (next_edge (is_in_word line) true (suc (trailing_zeros w64 edges)) (bit_and edges (edges - 1)) begins.others ends_too)
    where
      by_ends : (start between end others : ℕ) → NextEdge (is_in_word line) false ahead.from start between → NextEdge (is_in_word line) true (suc start) end others → NextPlaces line count start end others
      by_ends start between end others begin finish =
          let first = byte_at line start begin.turns in
          let within : end ≤ length line = by_past (nat_lt (length line) end) refl in record {
            rest = ahead.rest ∙ skip_to line ahead.from start begin.above (omega (arith, first.0)) begin.same;
            inside = first.0;
            byte = first.1;
            ends = (omega (arith, finish.above), within);
            lacks = λ k on to. (byte_at line k (word k on to)).1;
            found = λ inside. get_or_default line end 0 32 inside ∙ space_at line end finish.turns;
            from = suc end;
            are = finish.others;
            same = behind_word line end within finish.turns;
          }
        where
          word : (k : ℕ) → start ≤ k → k < end → is_in_word line k ≡ true
          word k on to = grind (arith, on, to)

          by_past : (test : Bool) → nat_lt (length line) end ≡ test → end ≤ length line
          by_past true is = grind (arith, is, byte_at line start begin.turns, byte_at line (length line))
          by_past false is = grind (arith, nat_tests, is)
