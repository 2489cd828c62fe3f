-- The lines of a script, one after another.
use Rattle.std.proofs.Common.{◌≡◌, ◌≢◌, ◌<◌, ◌==◌, ℕ, zero, suc, ◌-◌, List, [], ◌∷◌, ◌++◌, map, length, length-append, length-take-le, take, Bool, true, false, nat_le, refl, ap, ◌∙◌, arith, if◌then◌else◌}
use Rattle.std.proofs.lemmas.Bool.Decides.{nat_tests}
use Rattle.std.specs.List.{slice_index}
use Rattle.std.specs.Str.Lines.{strip_carriage_return}
use Rattle.line_text.proofs.Parts.{Lacks, slice_split-lacks, slice_split-at, slice_split-front, Split, split}
use Rattle.line_text.specs.Words.{lines_of, ended_lines_of, without_empty_end, without_last, parts_of, is_plain_line}

-- a line, its line feed, and the lines after it
without_empty_end-cons : (part : List ℕ) (parts : List (List ℕ)) (rest : List ℕ) → Split 10 rest → parts ≡ parts_of rest → without_empty_end (part ∷ parts) ≡ part ∷ without_empty_end parts
without_empty_end-cons part parts rest cut same = rw (same, cut.is) refl

without_last-cons : (part : List ℕ) (parts : List (List ℕ)) (rest : List ℕ) → Split 10 rest → parts ≡ parts_of rest → without_last (part ∷ parts) ≡ part ∷ without_last parts
without_last-cons part parts rest cut same = rw (same, cut.is) refl

pub lines_of-line : (line rest : List ℕ) → Lacks 10 line → lines_of (line ++ 10 ∷ rest) ≡ strip_carriage_return line ∷ lines_of rest
lines_of-line line rest lacks =
    ap (λ parts. map strip_carriage_return (without_empty_end parts)) (slice_split-at 10 line rest lacks)
    ∙ ap (map strip_carriage_return) (without_empty_end-cons line (parts_of rest) rest (split 10 rest) refl)

pub ended_lines_of-line : (line rest : List ℕ) → Lacks 10 line → ended_lines_of (line ++ 10 ∷ rest) ≡ strip_carriage_return line ∷ ended_lines_of rest
ended_lines_of-line line rest lacks =
    ap (λ parts. map strip_carriage_return (without_last parts)) (slice_split-at 10 line rest lacks)
    ∙ ap (map strip_carriage_return) (without_last-cons line (parts_of rest) rest (split 10 rest) refl)

-- the last line, which no line feed ended
pub lines_of-last : (line : List ℕ) → Lacks 10 line → 0 < length line → lines_of line ≡ strip_carriage_return line ∷ []
lines_of-last line lacks some =
    let filled : (length line == 0) ≡ false = grind (arith, nat_tests, some) in
    ap (λ parts. map strip_carriage_return (without_empty_end parts)) (slice_split-lacks 10 line lacks) ∙ rw filled refl

pub ended_lines_of-last : (line : List ℕ) → Lacks 10 line → ended_lines_of line ≡ []
ended_lines_of-last line lacks = ap (λ parts. map strip_carriage_return (without_last parts)) (slice_split-lacks 10 line lacks)

-- the first line of bytes that aren't none
pub record First (input : List ℕ) : Type 0 where
  pub line : List ℕ
  pub lines : List (List ℕ)
  pub is : lines_of input ≡ strip_carriage_return line ∷ lines

first_of_parts : (part : List ℕ) (parts : List (List ℕ)) → 0 < length part → (lines : List (List ℕ)) × (without_empty_end (part ∷ parts) ≡ part ∷ lines)
first_of_parts part [] some = let filled : (length part == 0) ≡ false = grind (arith, nat_tests, some) in ([], rw filled refl)
first_of_parts part (next ∷ parts) some = (without_empty_end (next ∷ parts), refl)

-- bytes that begin with some that are no line feed: the first line begins with them
pub record Begins (front input : List ℕ) : Type 0 where
  pub more : List ℕ
  pub lines : List (List ℕ)
  pub is : lines_of input ≡ strip_carriage_return (front ++ more) ∷ lines

pub begins : (front rest : List ℕ) → Lacks 10 front → 0 < length front → Begins front (front ++ rest)
begins front rest lacks some =
    let cut = split 10 rest in
    let filled : 0 < length (front ++ cut.first) = omega (arith, length-append front cut.first, some) in
    let kept = first_of_parts (front ++ cut.first) cut.others filled in record {
      more = cut.first;
      lines = map strip_carriage_return kept.0;
      is = ap (λ parts. map strip_carriage_return (without_empty_end parts)) (slice_split-front 10 front rest lacks) ∙ ap (map strip_carriage_return) kept.1;
    }

-- a line too long
strip-long : (line : List ℕ) → 129 < length line → 128 < length (strip_carriage_return line)
strip-long line long = by_test (slice_index line (length line - 1) == 13)
  where
    by_test : (test : Bool) → 128 < length (if test then take (length line - 1) line else line)
    by_test true = rw (length-take-le (length line - 1) line (omega arith)) (omega (arith, long))
    by_test false = omega (arith, long)

long-not_plain : (line : List ℕ) → 128 < length line → is_plain_line line ≡ false
long-not_plain line long = let past : nat_le (length line) 128 ≡ false = grind (arith, nat_tests, long) in rw past refl

pub begins-not_plain : (front more : List ℕ) → 129 < length front → is_plain_line (strip_carriage_return (front ++ more)) ≡ false
begins-not_plain front more long = long-not_plain (strip_carriage_return (front ++ more)) (strip-long (front ++ more) (omega (arith, length-append front more, long)))

-- bytes that aren't none have a line
single : (byte : ℕ) → (byte == 10) ≡ false → Lacks 10 (byte ∷ [])
single byte other zero within = let apart : byte ≢ 10 = grind (arith, nat_tests, other) in apart
single byte other (suc i) within = absurd (omega (arith, within))

pub lines_of-some : (byte : ℕ) (rest : List ℕ) → First (byte ∷ rest)
lines_of-some byte rest = by_test (byte == 10) refl
  where
    by_test : (test : Bool) → (byte == 10) ≡ test → First (byte ∷ rest)
    by_test true same =
        let cut = split 10 rest in
        record { line = []; lines = map strip_carriage_return (without_empty_end (parts_of rest)); is = rw (same, cut.is) refl }
    by_test false other =
        let found = begins (byte ∷ []) rest (single byte other) (omega arith) in
        record { line = byte ∷ found.more; lines = found.lines; is = found.is }
