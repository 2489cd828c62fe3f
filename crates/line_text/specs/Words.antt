-- Lines, words and numbers of a script (this project's profile). A text is the list of its bytes.
use Rattle.std.specs.Prelude.{◌≡◌, ◌≤◌, ◌<◌, ℕ, ◌-◌, ◌==◌, Bool, true, ◌&&◌, not, List, [], ◌∷◌, map, filter, length, if◌then◌else◌, nat_le, nat_lt, nat_eq, Option, Some, None, codes, slice_get, slice_index, slice_index_or, slice_range, unwrap_or}
use Rattle.std.specs.List.{slice_split, list_all, starts_with}
use Rattle.std.specs.Char.{is_digit}
use Rattle.std.specs.Str.Lines.{strip_carriage_return}
use Rattle.std.specs.Str.Parse.{digits_value}

-- ---- lines

-- the parts of a text between line feeds
abbrev pub parts_of : List ℕ → List (List ℕ)
parts_of input = slice_split (λ byte. byte == 10) input

-- parts, less the last one where it is empty: after the last line feed stands no line
abbrev pub without_empty_end : List (List ℕ) → List (List ℕ)
without_empty_end [] = []
without_empty_end (part ∷ []) = if length part == 0 then [] else part ∷ []
without_empty_end (part ∷ next ∷ parts) = part ∷ without_empty_end (next ∷ parts)

-- the lines of a script; one carriage return at a line's end is dropped
abbrev pub lines_of : List ℕ → List (List ℕ)
lines_of input = map strip_carriage_return (without_empty_end (parts_of input))

-- parts, less the last one
abbrev pub without_last : List (List ℕ) → List (List ℕ)
without_last [] = []
without_last (part ∷ []) = []
without_last (part ∷ next ∷ parts) = part ∷ without_last (next ∷ parts)

-- the lines that a line feed ended
abbrev pub ended_lines_of : List ℕ → List (List ℕ)
ended_lines_of input = map strip_carriage_return (without_last (parts_of input))

-- a byte of a line: from 0x20 to 0x7e
abbrev pub is_plain_byte : ℕ → Bool
is_plain_byte byte = nat_le 32 byte && nat_le byte 126

-- whether a line may stand: at most 128 such bytes
abbrev pub is_plain_line : List ℕ → Bool
is_plain_line line = nat_le (length line) 128 && list_all is_plain_byte line

-- ---- words

abbrev pub is_word : List ℕ → Bool
is_word part = not (length part == 0)

-- the words of a line, parted by spaces
abbrev pub words_of : List ℕ → List (List ℕ)
words_of line = filter is_word (slice_split (λ byte. byte == 32) line)

-- word number n of a line, from 1; empty where there is none
abbrev pub word_at : List (List ℕ) → ℕ → List ℕ
word_at words n = unwrap_or (slice_get words (n - 1)) []

-- whether a byte of a line stands in a word: there is none from the line's end on
abbrev pub is_in_word : List ℕ → ℕ → Bool
is_in_word line k = not (slice_index_or line k 32 == 32)

-- where word k of a line, from 0, stands in it
abbrev pub IsPlace : List ℕ → List ℕ → List ℕ → ℕ → Type 0
IsPlace line starts ends k =
    (slice_index starts k ≤ slice_index ends k) × (slice_index ends k ≤ length line)
    × (slice_get (words_of line) k ≡ Some (slice_range line (slice_index starts k) (slice_index ends k)))

-- where each of the first 16 words of a line stands in it
pub record ArePlaces (line starts ends : List ℕ) (count : ℕ) : Type 0 where
  pub places : (k : ℕ) → k < count → k < 16 → IsPlace line starts ends k
  pub counted : count ≡ length (words_of line)

-- whether a line is skipped: it has no words, or its first begins with `#`
abbrev pub is_skipped : List (List ℕ) → Bool
is_skipped [] = true
is_skipped (word ∷ words) = starts_with nat_eq word (codes "#")

-- ---- numbers

-- whether a word is 1 to so many digits
abbrev pub are_digits : ℕ → ℕ → List ℕ → Bool
are_digits base most word = nat_le 1 (length word) && nat_le (length word) most && list_all (λ digit. is_digit digit base) word

-- the number of 1 to so many digits, where it has at most 64 bits
abbrev pub number_of : ℕ → ℕ → List ℕ → Option ℕ
number_of base most word = if are_digits base most word && nat_lt (digits_value base word) 18446744073709551616 then Some (digits_value base word) else None

-- whether a word is a decimal number up to a limit: 1 to 20 digits
abbrev pub is_dec_to : ℕ → List ℕ → Bool
is_dec_to limit word = are_digits 10 20 word && nat_le (digits_value 10 word) limit

-- whether a word is a hexadecimal number up to a limit: 1 to 16 digits of either case
abbrev pub is_hex_to : ℕ → List ℕ → Bool
is_hex_to limit word = are_digits 16 16 word && nat_le (digits_value 16 word) limit

-- the number that a word of a line writes
abbrev pub dec_at : List (List ℕ) → ℕ → ℕ
dec_at words n = digits_value 10 (word_at words n)

abbrev pub hex_at : List (List ℕ) → ℕ → ℕ
hex_at words n = digits_value 16 (word_at words n)
