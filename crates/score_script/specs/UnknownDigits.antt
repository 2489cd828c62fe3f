-- Digits that stand for bits that nobody knows, x and z, as simulators print them; and the lanes of a payload that they make unknown (this project's
-- profile).
use Rattle.std.specs.Prelude.{ℕ, ◌≡◌, ⊤, Result, MatchResult, true, false, ◌+◌, ◌-◌, ◌*◌, ◌^◌, ◌==◌, Bool, ◌&&◌, ◌||◌, List, length, map, if◌then◌else◌, codes, nat_le, slice_index_or, nat_lt}
use Rattle.std.specs.Char.{is_digit}
use Rattle.std.specs.List.{list_all, list_any}
use Rattle.std.specs.Str.Parse.{digits_value}
use Rattle.bus_words.specs.Lanes.{mask_of}
use Rattle.line_text.specs.Fields.{Field}
use Rattle.line_text.specs.Words.{is_hex_to, word_at}

-- x and z, of either case
abbrev pub is_unknown_digit : ℕ → Bool
is_unknown_digit digit = list_any (λ code. digit == code) (codes "xXzZ")

-- a digit, with 0 in place of one that nobody knows
abbrev pub known_digit : ℕ → ℕ
known_digit digit = if is_unknown_digit digit then 48 else digit

-- the same of each digit of a word
abbrev pub known_word : List ℕ → List ℕ
known_word word = map known_digit word

-- digit k of a number, from its last, from 0: a word of one digit that nobody knows stands for a number of which nobody knows any, as simulators print it;
-- and before the first of more digits are zeros
abbrev pub digit_from_last : List ℕ → ℕ → ℕ
digit_from_last word k =
    if length word == 1
    then slice_index_or word 0 48
    else (if nat_lt k (length word) then slice_index_or word (length word - 1 - k) 48 else 48)

-- whether nobody knows it
abbrev pub is_unknown_at : List ℕ → ℕ → Bool
is_unknown_at word k = is_unknown_digit (digit_from_last word k)

-- the lanes of a payload that nobody knows: a lane is two digits
abbrev pub unknown_lanes : List ℕ → ℕ
unknown_lanes word = mask_of (λ lane. is_unknown_at word (2 * lane) || is_unknown_at word (2 * lane + 1))

-- ---- fields

-- 64 bits, hexadecimal, of which nobody need know any
abbrev pub payload_field : Field
payload_field word = is_hex_to (2 ^ 64 - 1) (known_word word)

-- a payload, with 0 in the place of each digit that nobody knows
abbrev pub payload_at : List (List ℕ) → ℕ → ℕ
payload_at words n = digits_value 16 (known_word (word_at words n))

-- whether a word is 1 to so many hexadecimal digits, of which nobody need know any
abbrev pub are_loose_digits : ℕ → List ℕ → Bool
are_loose_digits most word = nat_le 1 (length word) && nat_le (length word) most && list_all (λ digit. is_digit (known_digit digit) 16) word

-- a field of which nobody knows some digit, whatever it is for: 1 to 20 digits
abbrev pub unknown_field : Field
unknown_field word = list_any is_unknown_digit word && are_loose_digits 20 word

-- a field that may be so
abbrev pub or_unknown : Field → Field
or_unknown field word = field word || unknown_field word

-- a word stands, or its number is told
abbrev pub StandsAt : Bool → ℕ → Result ⊤ ℕ → Type 0
StandsAt right n result = MatchResult result (λ done. right ≡ true) (λ wrong. (right ≡ false) × (wrong ≡ n))
