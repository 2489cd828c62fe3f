-- The words of a line, part by part.
use Rattle.std.proofs.Common.{◌≡◌, ◌≤◌, ◌==◌, ℕ, suc, ◌+◌, List, [], ◌∷◌, ◌++◌, length, filter, Bool, true, false, refl, arith, if◌then◌else◌}
use Rattle.std.specs.List.{slice_split, onto_first}
use Rattle.line_text.proofs.Parts.{Lacks, slice_split-lacks, slice_split-at}
use Rattle.line_text.specs.Words.{is_word, words_of}

-- the word that a part is, if it is one
abbrev pub word_in : List ℕ → List (List ℕ)
word_in part = filter is_word (part ∷ [])

pub words_of-last : (part : List ℕ) → Lacks 32 part → words_of part ≡ word_in part
words_of-last part lacks = rw (slice_split-lacks 32 part lacks) refl

filter-cons : (part : List ℕ) (parts : List (List ℕ)) → filter is_word (part ∷ parts) ≡ word_in part ++ filter is_word parts
filter-cons part parts = grind arith

pub words_of-cut : (line part rest : List ℕ) → line ≡ part ++ 32 ∷ rest → Lacks 32 part → words_of line ≡ word_in part ++ words_of rest
words_of-cut line part rest cut lacks = rw (cut, slice_split-at 32 part rest lacks) (filter-cons part (slice_split (λ byte. byte == 32) rest))

-- ---- a line has at most half as many words as bytes

abbrev words_in : List (List ℕ) → ℕ
words_in parts = length (filter is_word parts)

-- 1 where the first part is a word
abbrev begun : List (List ℕ) → ℕ
begun [] = 0
begun (part ∷ parts) = if is_word part then 1 else 0

begun-few : (parts : List (List ℕ)) → begun parts ≤ 1
begun-few parts = grind arith

onto-few : (x n : ℕ) (parts : List (List ℕ)) → words_in parts + words_in parts ≤ n + begun parts → words_in (onto_first x parts) + words_in (onto_first x parts) ≤ suc n + begun (onto_first x parts)
onto-few x n parts few = grind (arith, few)

parts-few : (line : List ℕ) → words_in (slice_split (λ byte. byte == 32) line) + words_in (slice_split (λ byte. byte == 32) line) ≤ length line + begun (slice_split (λ byte. byte == 32) line)
parts-few [] = omega arith
parts-few (x ∷ xs) = by_test (parts-few xs) (x == 32)
  where
    rest : List (List ℕ)
    rest = slice_split (λ byte. byte == 32) xs

    parts : Bool → List (List ℕ)
    parts test = if test then [] ∷ rest else onto_first x rest

    by_test : words_in rest + words_in rest ≤ length xs + begun rest → (test : Bool) → words_in (parts test) + words_in (parts test) ≤ suc (length xs) + begun (parts test)
    by_test few true = omega (arith, few, begun-few rest)
    by_test few false = onto-few x (length xs) rest few

pub words_of-few : (line : List ℕ) → length (words_of line) + length (words_of line) ≤ length line + 1
words_of-few line = omega (arith, parts-few line, begun-few (slice_split (λ byte. byte == 32) line))
