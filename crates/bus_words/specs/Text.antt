-- The text of numbers and lines in a trace. A text is the list of its bytes, all ASCII.
use Rattle.std.specs.Prelude.{ℕ, ◌-◌, Bool, true, false, List, [], ◌∷◌, ◌++◌, length, replicate, codes}
use Rattle.std.specs.Fmt.{digits}

-- a numeral with zeros in front, up to `count` digits
abbrev pub zeros_before : ℕ → List ℕ → List ℕ
zeros_before count numeral = replicate (count - length numeral) 48 ++ numeral

-- a number in `count` lower-case hexadecimal digits; in more where it needs more
unfoldable pub hex : ℕ → ℕ → List ℕ
hex count number = zeros_before count (digits 16 false number)

-- a flag: 1 where it is set, else 0
abbrev pub flag : Bool → List ℕ
flag true = codes "1"
flag false = codes "0"

-- words with one space between each two, and the line's end, LF
abbrev pub line : List (List ℕ) → List ℕ
line [] = 10 ∷ []
line (word ∷ []) = word ++ 10 ∷ []
line (word ∷ next ∷ words) = word ++ (32 ∷ line (next ∷ words))
