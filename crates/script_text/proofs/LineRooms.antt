-- A set-up line that may stand has room.
use Rattle.std.proofs.Common.{◌≡◌, ◌<◌, ◌≤◌, ℕ, ◌+◌, List, [], ◌∷◌, length, Bool, true, false, ◌&&◌, ◌||◌, nat_lt, nat_le, Option, None, Some, Result, Ok, Err, refl, sym, ap, arith, if◌then◌else◌, rules}
use Rattle.std.proofs.lemmas.Bool.Decides.{nat_tests}
use Rattle.setups.specs.Setups.{SetupLists}
use Rattle.line_text.specs.Fields.{first_wrong, read_as, unless_wrong, address_field}
use Rattle.script_text.specs.Forms.{count_field, kind_field}
use Rattle.script_text.specs.SetupLines.{region_in, region_fields, page_fields, kind_in}
use Rattle.script_text.specs.SetupRules.{HasRoomFor, has_no_room, setup_line}
use Rattle.line_text.specs.Words.{word_at, dec_at, hex_at}
use Rattle.script_text.specs.declared.keywords.Form.{Form}
use Rattle.script_text.specs.declared.keywords.Form.TheVariants as form
use Rattle.script_text.specs.declared.setup_parser.SetupLine.{SetupLine}
use Rattle.script_text.specs.declared.setup_parser.SetupLine.TheVariants.{Region, Pages, BadWord}

apart : false ≡ true → ⊥
apart wrong = search rules

-- ---- what a set-up line says

abbrev told : SetupLine → Result SetupLine ℕ → SetupLine
told other (Ok line) = line
told other (Err word) = other

abbrev went : Result SetupLine ℕ → Bool
went (Ok line) = true
went (Err word) = false

-- what a line's fields say, where they say it
said : (value line : SetupLine) (fault : Option ℕ) → unless_wrong value fault ≡ Ok line → (fault ≡ None) × (line ≡ value)
said value line None same = (refl, sym (ap (told value) same))
said value line (Some word) same = absurd (apart (ap went same))

-- the fields of a `page` line that are right
page_right : (first count kind : Bool) (last : Option ℕ) → (if first then (if count then (if kind then last else Some 4) else Some 3) else Some 2) ≡ None → (first ≡ true) × (count ≡ true) × (kind ≡ true)
page_right true true true last same = (refl, refl, refl)
page_right first count kind last same = search rules

-- what a set-up line of a form says
abbrev SaysAs : Form → List (List ℕ) → SetupLine → Type 0
SaysAs form.Region words line = line ≡ Region (region_in words)
SaysAs form.Page words line =
    (address_field (word_at words 2) ≡ true) × (count_field (word_at words 3) ≡ true)
    × (line ≡ Pages (hex_at words 2) (dec_at words 3) (kind_in (word_at words 4)))
SaysAs form.BadWord words line = line ≡ BadWord (hex_at words 2)
SaysAs _ words line = ⊥

page_says : (words : List (List ℕ)) (line : SetupLine) → read_as page_fields words (Pages (hex_at words 2) (dec_at words 3) (kind_in (word_at words 4))) ≡ Ok line → SaysAs form.Page words line
page_says words line same =
    let says = said _ line (first_wrong page_fields words 2) same in
    let right = page_right (address_field (word_at words 2)) (count_field (word_at words 3)) (kind_field (word_at words 4)) _ says.0 in
    (right.0, right.1, says.1)

says : (f : Form) (words : List (List ℕ)) (line : SetupLine) → setup_line f words ≡ Ok line → SaysAs f words line
says form.Region words line same = (said (Region (region_in words)) line (first_wrong region_fields words 2) same).1
says form.Page words line same = page_says words line same
says form.BadWord words line same = (said (BadWord (hex_at words 2)) line (first_wrong (address_field ∷ []) words 2) same).1
says f words line same = apart (ap went same)

-- ---- room

-- the pages of a line that has room
pages_fit : (held count first : ℕ) (counted addressed : Bool) → counted ≡ true → addressed ≡ true
    → (nat_le 64 held || counted && (nat_lt 64 (held + count) || addressed && nat_lt 4294967296 (first + count))) ≡ false → (held + count ≤ 64) × (first + count ≤ 4294967296)
pages_fit held count first counted addressed is_count is_address fits = by_tests (nat_le 64 held) (nat_lt 64 (held + count)) (nat_lt 4294967296 (first + count)) refl refl (rw (is_count, is_address) at fits)
  where
    by_tests : (full many late : Bool) → nat_lt 64 (held + count) ≡ many → nat_lt 4294967296 (first + count) ≡ late → (full || true && (many || true && late)) ≡ false
        → (held + count ≤ 64) × (first + count ≤ 4294967296)
    by_tests false false false m l fits' = (grind (arith, nat_tests, m), grind (arith, nat_tests, l))
    by_tests full many late m l wrong = search rules

set_up_room : (setup : SetupLists) (f : Form) (words : List (List ℕ)) (line : SetupLine) → has_no_room setup f words ≡ false → SaysAs f words line → HasRoomFor setup line
set_up_room setup form.Region words line test is = let few : length setup.regions < 16 = grind (arith, nat_tests, test) in rw is few
set_up_room setup form.Page words line test (address, count, is) =
    let fits = pages_fit (length setup.pages) (dec_at words 3) (hex_at words 2) (count_field (word_at words 3)) (address_field (word_at words 2)) count address test in
    rw is fits
set_up_room setup form.BadWord words line test is = let few : length setup.bad_words < 64 = grind (arith, nat_tests, test) in rw is few
set_up_room setup f words line test is = absurd is

-- a set-up line that was read has room where one of its form has
pub setup_line-room : (setup : SetupLists) (f : Form) (words : List (List ℕ)) (line : SetupLine) → has_no_room setup f words ≡ false → setup_line f words ≡ Ok line → HasRoomFor setup line
setup_line-room setup f words line test same = set_up_room setup f words line test (says f words line same)
