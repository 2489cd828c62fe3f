-- The forms of a script's lines, and the fields of set-up lines (this project's profile).
use Rattle.std.specs.Prelude.{ℕ, ◌==◌, false, Result, Ok, Err, ◌&&◌, ◌||◌, List, [], ◌∷◌, length, Option, find, option_map, nat_le, codes}
use Rattle.std.specs.List.{list_all}
use Rattle.std.specs.Str.{bytes_eq}
use Rattle.std.specs.Str.Parse.{digits_value}
use Rattle.line_text.specs.Fields.{Field}
use Rattle.line_text.specs.Words.{is_dec_to}
use Rattle.script_text.specs.declared.keywords.Form.{Form}
use Rattle.script_text.specs.declared.keywords.Form.TheVariants.{Config, Region, Page, BadWord, Offer, Pump, Perform, AnswerB, AnswerR, Take, Drain, Mem, Work, Free, Word}

-- the first word of each form
abbrev pub forms : List (List ℕ × Form)
forms =
    (codes "config", Config) ∷ (codes "region", Region) ∷ (codes "page", Page) ∷ (codes "bad", BadWord) ∷ (codes "a", Offer)
    ∷ (codes "pump", Pump) ∷ (codes "do", Perform) ∷ (codes "b", AnswerB) ∷ (codes "r", AnswerR) ∷ (codes "take", Take)
    ∷ (codes "drain", Drain) ∷ (codes "mem", Mem) ∷ (codes "work", Work) ∷ (codes "free", Free) ∷ (codes "word", Word) ∷ []

abbrev pub form_of : List ℕ → Option Form
form_of word = option_map (λ row. row.1) (find (λ row. bytes_eq word row.0) forms)

-- ---- the fields of set-up lines

-- a letter for each client's level: `l` for TL-UL, `h` for TL-UH
abbrev pub levels_field : ℕ → Field
levels_field clients word =
    nat_le 1 (length word) && nat_le (length word) 8 && length word == clients && list_all (λ letter. letter == 108 || letter == 104) word

-- `gpah`, where each letter may be `-`
abbrev pub permissions_field : Field
permissions_field (g ∷ p ∷ a ∷ h ∷ []) = (g == 103 || g == 45) && (p == 112 || p == 45) && (a == 97 || a == 45) && (h == 104 || h == 45)
permissions_field _ = false

-- how many pages follow each other: 1 to 64
abbrev pub count_field : Field
count_field word = is_dec_to 64 word && nat_le 1 (digits_value 10 word)

-- the same of a bridge that is only observed: 1 to 1,048,576, as many as there are of addresses of 32 bits
abbrev pub range_count_field : Field
range_count_field word = is_dec_to 1048576 word && nat_le 1 (digits_value 10 word)

-- the kind of a page
abbrev pub kind_field : Field
kind_field word = bytes_eq word (codes "good") || bytes_eq word (codes "slverr")

-- the same of a bridge that is only observed: a good page may begin with any bytes
abbrev pub range_kind_field : Field
range_kind_field word = kind_field word || bytes_eq word (codes "any")

-- ---- a whole line

-- what a line says, as part of what more forms say, or anything else that is told otherwise; a fault stays what it is
abbrev pub told_as : {X Y E : Type 0} → (X → Y) → Result X E → Result Y E
told_as tell (Ok value) = Ok (tell value)
told_as tell (Err fault) = Err fault
