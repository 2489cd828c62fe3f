-- The fields of a line, and its first wrong word (this project's profile).
use Rattle.std.specs.Prelude.{ℕ, ◌≡◌, ◌+◌, ◌-◌, ◌^◌, Bool, true, false, Result, Ok, Err, MatchResult, ◌||◌, List, [], ◌∷◌, length, Option, Some, None, if◌then◌else◌, nat_le, codes}
use Rattle.std.specs.Str.{bytes_eq}
use Rattle.line_text.specs.Words.{is_dec_to, is_hex_to, word_at}

-- ---- fields; no field takes the empty word, which stands for a word that is missing

abbrev pub Field : Type 0
Field = List ℕ → Bool

-- a decimal number to 255
abbrev pub byte_field : Field
byte_field = is_dec_to 255

-- a decimal number to 65,535
abbrev pub short_field : Field
short_field = is_dec_to 65535

-- a decimal number to 2^32 - 1
abbrev pub long_field : Field
long_field = is_dec_to (2 ^ 32 - 1)

-- a hexadecimal number to 2^32 - 1: an address or a page
abbrev pub address_field : Field
address_field = is_hex_to (2 ^ 32 - 1)

-- `0` or `1`, as it stands
abbrev pub flag_field : Field
flag_field word = bytes_eq word (codes "0") || bytes_eq word (codes "1")

-- whether a flag's word is `1`
abbrev pub is_set : List ℕ → Bool
is_set word = bytes_eq word (codes "1")

-- what reading a field answers: its value where the word is right, else the word's number
abbrev pub Reads : {X : Type 0} → Bool → X → ℕ → Result X ℕ → Type 0
Reads right value n result = MatchResult result (λ read. (right ≡ true) × (read ≡ value)) (λ wrong. (right ≡ false) × (wrong ≡ n))

-- ---- a whole line

-- the first word, from number n on, that isn't as its field says; a missing word isn't, and one too many isn't
abbrev pub first_wrong : List Field → List (List ℕ) → ℕ → Option ℕ
first_wrong [] words n = if nat_le n (length words) then Some n else None
first_wrong (field ∷ fields) words n = if field (word_at words n) then first_wrong fields words (n + 1) else Some n

abbrev pub unless_wrong : {X : Type 0} → X → Option ℕ → Result X ℕ
unless_wrong value None = Ok value
unless_wrong value (Some word) = Err word

-- what a line of these fields says, else its first wrong word
abbrev pub read_as : {X : Type 0} → List Field → List (List ℕ) → X → Result X ℕ
read_as fields words value = unless_wrong value (first_wrong fields words 2)
