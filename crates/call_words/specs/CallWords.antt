-- What stands in the words of a call (this project's profile).
use Rattle.std.specs.Prelude.{ℕ, zero, suc, ◌+◌, ◌*◌, ◌/◌, ◌%◌, ◌^◌, Bool, ◌==◌, List, [], ◌∷◌, ◌++◌, get_or}

-- a byte, the lowest of a word; a flag, its lowest bit; and its lower half
abbrev pub byte_in : ℕ → ℕ
byte_in word = word % 256

abbrev pub flag_in : ℕ → Bool
flag_in word = word % 2 == 1

abbrev pub low_in : ℕ → ℕ
low_in word = word % 4294967296

-- how many words so many bytes are
abbrev pub line_words : ℕ → ℕ
line_words length = (length % 129 + 7) / 8

-- the byte of some words at a place, the lowest of each word first
abbrev pub byte_of : List ℕ → ℕ → ℕ
byte_of words place = byte_in (get_or words (place / 8) 0 / 2 ^ (place % 8 * 8))

-- their first bytes
abbrev pub first_bytes : List ℕ → ℕ → List ℕ
first_bytes words zero = []
first_bytes words (suc place) = first_bytes words place ++ byte_of words place ∷ []

-- the bytes of a text of so many
abbrev pub bytes_of : List ℕ → ℕ → List ℕ
bytes_of words count = first_bytes words (count % 129)
