-- Why a line of an observation is at fault (this project's profile).
use Rattle.std.specs.Prelude.{ℕ, ◌-◌, ◌==◌, ◌&&◌, ◌||◌, Bool, List, [], ◌∷◌, length, find, option_map, nat_le, nat_lt, slice_get, Option, Some, None, codes, if◌then◌else◌}
use Rattle.std.specs.List.{list_all}
use Rattle.std.specs.Str.{bytes_eq}
use Rattle.line_text.specs.Fields.{address_field}
use Rattle.line_text.specs.Words.{word_at, words_of}
use Rattle.script_text.specs.declared.faults.ScriptFault.{ScriptFault}
use Rattle.script_text.specs.declared.faults.ScriptFault.TheVariants.{Script}
use Rattle.score_script.specs.declared.reasons.FaultReason.{FaultReason}
use Rattle.score_script.specs.declared.reasons.FaultReason.TheVariants.{TooManyLines, LineTooLong, ByteNotAllowed, NoConfig, NoSuchLine, LineNotAllowed, WordMissing, WordTooMany, NumberOutOfRange, NoDecimal, NoHexadecimal, NoFlag, NoGoodPage, WordNotAllowed}
use Rattle.score_script.specs.declared.reasons.FieldKind.{FieldKind}
use Rattle.score_script.specs.declared.reasons.FieldKind.TheVariants.{Decimal, Hexadecimal, Flag, Place, Name}

-- ---- what the lines are

-- the lines of a set-up, each by its first word and the fields behind it
abbrev pub setup_lines : List (List ℕ × List FieldKind)
setup_lines =
    (codes "config", Decimal ∷ Decimal ∷ Decimal ∷ Decimal ∷ Decimal ∷ Decimal ∷ Name ∷ Decimal ∷ [])
    ∷ (codes "region", Hexadecimal ∷ Decimal ∷ Hexadecimal ∷ Name ∷ [])
    ∷ (codes "page", Hexadecimal ∷ Decimal ∷ Name ∷ [])
    ∷ (codes "bad", Hexadecimal ∷ [])
    ∷ (codes "profile", Name ∷ [])
    ∷ (codes "axi", Name ∷ [])
    ∷ (codes "errors", Name ∷ [])
    ∷ (codes "x", Name ∷ [])
    ∷ []

-- those of beats
abbrev pub beat_lines : List (List ℕ × List FieldKind)
beat_lines =
    (codes "A", Decimal ∷ Decimal ∷ Decimal ∷ Decimal ∷ Decimal ∷ Hexadecimal ∷ Hexadecimal ∷ Hexadecimal ∷ Flag ∷ [])
    ∷ (codes "D", Decimal ∷ Decimal ∷ Decimal ∷ Decimal ∷ Decimal ∷ Flag ∷ Hexadecimal ∷ Flag ∷ [])
    ∷ (codes "AW", Decimal ∷ Hexadecimal ∷ Decimal ∷ Decimal ∷ Decimal ∷ [])
    ∷ (codes "AR", Decimal ∷ Hexadecimal ∷ Decimal ∷ Decimal ∷ Decimal ∷ [])
    ∷ (codes "W", Hexadecimal ∷ Hexadecimal ∷ Flag ∷ [])
    ∷ (codes "B", Decimal ∷ Name ∷ [])
    ∷ (codes "R", Decimal ∷ Hexadecimal ∷ Name ∷ Flag ∷ [])
    ∷ []

-- all others; a `fill` line has as many fields more as it has bytes
abbrev pub other_lines : List (List ℕ × List FieldKind)
other_lines =
    (codes "fill", Place ∷ [])
    ∷ (codes "time", Decimal ∷ [])
    ∷ (codes "waited", Name ∷ Decimal ∷ [])
    ∷ (codes "mem", Hexadecimal ∷ [])
    ∷ (codes "=", [])
    ∷ []

-- the fields of such a line that begins with this word, if one does
abbrev pub fields_in : List (List ℕ × List FieldKind) → List ℕ → Option (List FieldKind)
fields_in lines word = option_map (λ row. row.1) (find (λ row. bytes_eq word row.0) lines)

abbrev pub setup_fields : List ℕ → Option (List FieldKind)
setup_fields word = fields_in setup_lines word

abbrev pub beat_fields : List ℕ → Option (List FieldKind)
beat_fields word = fields_in beat_lines word

abbrev pub other_fields : List ℕ → Option (List FieldKind)
other_fields word = fields_in other_lines word

-- the first fields, if there are any, else the others
abbrev pub or_else : Option (List FieldKind) → Option (List FieldKind) → Option (List FieldKind)
or_else (Some fields) others = Some fields
or_else None others = others

-- the fields of a line that begins with this word, if one does
abbrev pub fields_of : List ℕ → Option (List FieldKind)
fields_of word = or_else (setup_fields word) (or_else (beat_fields word) (other_fields word))

-- field n, by the first word and the fields behind it: a `fill` line has up to 32 bytes behind its place
abbrev pub field_at : List ℕ → List FieldKind → ℕ → Option FieldKind
field_at first fields n = if nat_lt 2 n && nat_le n 34 && bytes_eq first (codes "fill") then Some Hexadecimal else slice_get fields (n - 2)

-- ---- why a word may not stand there

abbrev pub is_decimal_digit : ℕ → Bool
is_decimal_digit digit = nat_le 48 digit && nat_le digit 57

-- of either case
abbrev pub is_hexadecimal_digit : ℕ → Bool
is_hexadecimal_digit digit = is_decimal_digit digit || nat_le 97 digit && nat_le digit 102 || nat_le 65 digit && nat_le digit 70

-- digits are a number that is too small, too large, or has too many of them; other words are none
abbrev pub number_reason : Bool → FaultReason → FaultReason
number_reason are_digits other = if are_digits then NumberOutOfRange else other

-- in the place of a field
abbrev pub field_reason : FieldKind → List ℕ → FaultReason
field_reason Decimal word = number_reason (list_all is_decimal_digit word) NoDecimal
field_reason Hexadecimal word = number_reason (list_all is_hexadecimal_digit word) NoHexadecimal
field_reason Flag word = NoFlag
field_reason Place word = if address_field word then NoGoodPage else number_reason (list_all is_hexadecimal_digit word) NoHexadecimal
field_reason Name word = WordNotAllowed

-- behind the first word, where lines have such a field or no word there
abbrev pub place_reason : Option FieldKind → List ℕ → FaultReason
place_reason (Some field) word = field_reason field word
place_reason None word = WordTooMany

-- by the fields of lines that begin so, if any do
abbrev pub among_fields : Option (List FieldKind) → List (List ℕ) → ℕ → FaultReason
among_fields None words n = NoSuchLine
among_fields (Some fields) words n =
    if n == 1 then LineNotAllowed else place_reason (field_at (word_at words 1) fields n) (word_at words n)

-- word n of a line; where there is no line, the input ended before its `config` line
abbrev pub word_reason : List (List ℕ) → ℕ → FaultReason
word_reason words n =
    if length (word_at words 1) == 0
    then NoConfig
    else (if length (word_at words n) == 0 then WordMissing else among_fields (fields_of (word_at words 1)) words n)

-- ---- why a line is at fault

-- by its number, the first wrong word, 0 for the line as a whole, and as much of it as is held
abbrev pub line_reason : ℕ → ℕ → List ℕ → FaultReason
line_reason number word line =
    if word == 0 && nat_lt 4294967294 number
    then TooManyLines
    else (if nat_lt 128 (length line) then LineTooLong else (if word == 0 then ByteNotAllowed else word_reason (words_of line) word))

-- of a fault of the text, by the line at which it stopped
abbrev pub fault_reason : ScriptFault → List ℕ → Option FaultReason
fault_reason (Script number word) line = Some (line_reason number word line)
fault_reason _ line = None

-- ---- its text

abbrev pub reason_text : FaultReason → List ℕ
reason_text TooManyLines = codes "more lines than there may be"
reason_text LineTooLong = codes "a line of more than 128 bytes"
reason_text ByteNotAllowed = codes "a byte that isn't printable ASCII"
reason_text NoConfig = codes "the input ends without a config line"
reason_text NoSuchLine = codes "no line begins with this word"
reason_text LineNotAllowed = codes "such a line may not stand here"
reason_text WordMissing = codes "a word is missing"
reason_text WordTooMany = codes "a word too many"
reason_text NumberOutOfRange = codes "a number out of range"
reason_text NoDecimal = codes "this is no decimal number"
reason_text NoHexadecimal = codes "this is no hexadecimal number"
reason_text NoFlag = codes "this is neither 0 nor 1"
reason_text NoGoodPage = codes "not all bytes lie on good pages"
reason_text WordNotAllowed = codes "this word may not stand here"
