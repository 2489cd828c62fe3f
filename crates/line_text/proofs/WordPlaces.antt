-- The words of a line, by where they stand in it.
use Rattle.std.proofs.Common.{◌≡◌, ◌≢◌, ◌≤◌, ◌<◌, ◌==◌, ℕ, zero, suc, ◌+◌, ◌-◌, List, [], ◌∷◌, ◌++◌, length, drop, set, get_or, Bool, true, false, Some, nat_le, slice_get, refl, sym, ap, ◌∙◌, append-nil, length-take, length-drop, arith, add-one, get_or-set_same, get_or-set_other, below_more, rules, take-append-drop}
use Rattle.std.proofs.lemmas.Bool.Decides.{nat_tests}
use Rattle.std.proofs.lemmas.List.{drop-drop, drop_all, drop_more, get_or-drop, get_or-take}
use Rattle.std.specs.List.{between}
use Rattle.line_text.proofs.Parts.{Lacks}
use Rattle.line_text.proofs.WordParts.{word_in, words_of-last, words_of-cut}
use Rattle.line_text.specs.Words.{IsPlace, words_of}

-- a space in front is no word
pub words_of-space : (line : List ℕ) (place : ℕ) → place < length line → get_or line place 0 ≡ 32 → words_of (drop place line) ≡ words_of (drop (place + 1) line)
words_of-space line place within space = ap words_of (drop_more line place 0 within ∙ ap (λ byte. byte ∷ drop (place + 1) line) space)

word_in-some : (part : List ℕ) → 0 < length part → word_in part ≡ part ∷ []
word_in-some part some = grind (arith, some)

-- the bytes from a word's start to the space behind it are the next word
module _ (line : List ℕ) (start end : ℕ) (some : start < end) (within : end ≤ length line) (lacks : (k : ℕ) → start ≤ k → k < end → get_or line k 0 ≢ 32) (found : end < length line → get_or line end 0 ≡ 32) where
  part : List ℕ
  part = between start end line

  long : length (between start end line) ≡ end - start
  long = simp (length-take, length-drop) (omega arith)

  cut : drop start line ≡ between start end line ++ drop end line
  cut =
      let back : start + (end - start) ≡ end = omega arith in
      sym (take-append-drop (end - start) (drop start line)) ∙ ap (λ rest. between start end line ++ rest) (drop-drop (end - start) start line ∙ ap (λ n. drop n line) back)

  bare : Lacks 32 (between start end line)
  bare i below =
      let short : i < end - start = omega (arith, below, long) in
      rw (get_or-take (end - start) (drop start line) i 0 short, get_or-drop start line i 0) (lacks (start + i) (omega arith) (omega arith))

  one : word_in (between start end line) ≡ between start end line ∷ []
  one = word_in-some (between start end line) (omega (arith, long))

  at_end : length line ≤ end → words_of (drop start line) ≡ between start end line ∷ words_of (drop end line)
  at_end over =
      let none = drop_all end line over in
      ap words_of (cut ∙ ap (λ rest. between start end line ++ rest) none ∙ append-nil (between start end line)) ∙ words_of-last (between start end line) bare ∙ one ∙ ap (λ rest. between start end line ∷ words_of rest) (sym none)

  at_space : end < length line → words_of (drop start line) ≡ between start end line ∷ words_of (drop end line)
  at_space under =
      let space = drop_more line end 0 under ∙ ap (λ byte. byte ∷ drop (end + 1) line) (found under) in
      words_of-cut (drop start line) (between start end line) (drop (end + 1) line) (cut ∙ ap (λ rest. between start end line ++ rest) space) bare
      ∙ ap (λ words. words ++ words_of (drop (end + 1) line)) one ∙ ap (λ words. between start end line ∷ words) (sym (words_of-space line end under (found under)))

  pub words_of-word : words_of (drop start line) ≡ between start end line ∷ words_of (drop end line)
  words_of-word = by_end (end == length line) refl
    where
      by_end : (test : Bool) → (end == length line) ≡ test → words_of (drop start line) ≡ between start end line ∷ words_of (drop end line)
      by_end true is = at_end (grind (arith, nat_tests, is))
      by_end false other = at_space (grind (arith, nat_tests, other, within))

-- ---- the words held so far

-- the entry that a rest of a list begins with
pub first_of : {X : Type 0} (xs rest : List X) (n : ℕ) (x : X) → drop n xs ≡ x ∷ rest → (slice_get xs n ≡ Some x) × (drop (suc n) xs ≡ rest) × (n < length xs)
first_of [] rest zero x same = search rules
first_of [] rest (suc n) x same = search rules
first_of (y ∷ xs) rest zero x same = (let is : y ≡ x = cc in ap Some is, cc, omega arith)
first_of (y ∷ xs) rest (suc n) x same = let more = first_of xs rest n x same in (more.0, more.1, omega (arith, more.2))

-- one word more
pub places-more : (line starts ends : List ℕ) (count start end : ℕ) → count < length starts → count < length ends → ((k : ℕ) → k < count → IsPlace line starts ends k) → start ≤ end → end ≤ length line
    → slice_get (words_of line) count ≡ Some (between start end line) → (k : ℕ) → k < count + 1 → IsPlace line (set starts count start) (set ends count end) k
places-more line starts ends count start end room_s room_e held order within is =
    below_more (IsPlace line (set starts count start) (set ends count end)) count
    (λ k below. let other : k ≢ count = omega arith in rw (get_or-set_other starts count k start 0 other, get_or-set_other ends count k end 0 other) (held k below))
    (rw (get_or-set_same starts count start 0 room_s, get_or-set_same ends count end 0 room_e) (order, within, is))

-- the word that begins at a place
pub word_here : (line : List ℕ) (start end : ℕ) → start < length line → get_or line start 0 ≢ 32 → (start ≤ end) × (end ≤ length line) → ((k : ℕ) → start ≤ k → k < end → get_or line k 0 ≢ 32)
    → (end < length line → get_or line end 0 ≡ 32) → (start < end) × (words_of (drop start line) ≡ between start end line ∷ words_of (drop end line))
word_here line start end inside byte (order, within) lacks found = let some : start < end = longer (start == end) refl in (some, words_of-word line start end some within lacks found)
  where
    longer : (test : Bool) → (start == end) ≡ test → start < end
    longer true same = let e : end ≡ start = grind (arith, nat_tests, same) in absurd (byte (ap (λ k. get_or line k 0) (sym e) ∙ found (omega (arith, e, inside))))
    longer false other = grind (arith, nat_tests, other, order)

-- what holds of a word's first place and of those behind it
pub from_next : (line : List ℕ) (start end : ℕ) → get_or line start 0 ≢ 32 → ((k : ℕ) → start + 1 ≤ k → k < end → get_or line k 0 ≢ 32) → (k : ℕ) → start ≤ k → k < end → get_or line k 0 ≢ 32
from_next line start end first rest k from below = grind (arith, first, rest, from, below)

-- the word that begins at a place, behind those held so far
pub record NextWord (line : List ℕ) (count start end : ℕ) : Type 0 where
  pub is : slice_get (words_of line) count ≡ Some (between start end line)
  pub rest : drop (count + 1) (words_of line) ≡ words_of (drop end line)
  pub counted : count < length (words_of line)

pub next_word : (line : List ℕ) (count start end : ℕ) → drop count (words_of line) ≡ words_of (drop start line) → start < length line → get_or line start 0 ≢ 32
    → (start ≤ end) × (end ≤ length line) → ((k : ℕ) → start ≤ k → k < end → get_or line k 0 ≢ 32) → (end < length line → get_or line end 0 ≡ 32) → NextWord line count start end
next_word line count start end held inside byte ends lacks found =
    let first = first_of (words_of line) (words_of (drop end line)) count (between start end line) (held ∙ (word_here line start end inside byte ends lacks found).1) in
    record { is = first.0; rest = rw add-one first.1; counted = first.2 }

-- no word is left behind the last
pub all_counted : (line : List ℕ) (count start : ℕ) → drop count (words_of line) ≡ words_of (drop start line) → length line ≤ start → length (words_of line) ≤ count
all_counted line count start held over =
    let none : drop count (words_of line) ≡ [] = held ∙ ap words_of (drop_all start line over) in
    omega (arith, length-drop count (words_of line), ap length none)

-- a word is left before the last
pub not_counted : (line : List ℕ) (count start : ℕ) → drop count (words_of line) ≡ words_of (drop start line) → count < length (words_of line) → start < length line
not_counted line count start held under = by_end (nat_le (length line) start) refl
  where
    by_end : (test : Bool) → nat_le (length line) start ≡ test → start < length line
    by_end true over = let over' : length line ≤ start = grind (arith, nat_tests, over) in absurd (omega (arith, under, all_counted line count start held over'))
    by_end false within = grind (arith, nat_tests, within)
