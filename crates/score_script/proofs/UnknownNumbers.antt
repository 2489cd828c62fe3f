-- What digits write, of which nobody need know any: 0 stands in the place of each that nobody knows.
use Rattle.std.proofs.Common.{◌≡◌, ◌<◌, ◌≤◌, ℕ, zero, suc, ◌+◌, ◌-◌, ◌*◌, ◌==◌, List, [], ◌∷◌, Bool, ◌&&◌, length, take, get_or, slice_index_or, true, false, refl, ap, ap₂, ◌∙◌, arith, nat_le, nat_lt, Some, None, if◌then◌else◌, unwrap_or, rules}
use Rattle.std.proofs.Math.Nat.{pow-le-pow_right}
use Rattle.std.proofs.lemmas.Bool.{and_parts}
use Rattle.std.proofs.lemmas.Bool.Decides.{nat_tests}
use Rattle.std.proofs.lemmas.List.{get_or-map, length-map}
use Rattle.std.proofs.lemmas.List.Folds.{list_all_at}
use Rattle.std.specs.Char.{is_digit, digit_value}
use Rattle.std.specs.Str.Parse.{digits_value}
use Rattle.line_text.proofs.NumberLaws.{all_digits, value-fits, value-more}
use Rattle.line_text.specs.Words.{are_digits, is_hex_to, number_of}
use Rattle.score_script.specs.UnknownDigits.{is_unknown_at, is_unknown_digit, known_digit, known_word, unknown_lanes}

-- the number of a front of a word and one digit more
module _ (word : List ℕ) (i value digit : ℕ) (within : i < length word) (all : all_digits 16 (take i (known_word word)) ≡ true) (read : value ≡ digits_value 16 (take i (known_word word))) (is : is_digit (known_digit (get_or word i 0)) 16 ≡ true) (one : digit ≡ digit_value (known_digit (get_or word i 0))) where
  long : length (known_word word) ≡ length word
  long = length-map word known_digit

  there : get_or (known_word word) i 0 ≡ known_digit (get_or word i 0)
  there = get_or-map known_digit word i 0 0 within

  pub known-fits : length word ≤ 16 → value * 16 + digit < 18446744073709551616
  known-fits few = value-fits 16 (known_word word) i value 16 digit (rw long within) all read refl (rw there is) (rw there one) (rw long (pow-le-pow_right {n = 16} (omega arith) few))

  pub known-more : (all_digits 16 (take (i + 1) (known_word word)) ≡ true) × (value * 16 + digit ≡ digits_value 16 (take (i + 1) (known_word word)))
  known-more = value-more 16 (known_word word) i value 16 digit (rw long within) all read refl (rw there is) (rw there one)

-- a byte that is none
pub known-other : (word : List ℕ) (i : ℕ) → i < length word → is_digit (known_digit (get_or word i 0)) 16 ≡ false → all_digits 16 (known_word word) ≡ false
known-other word i within other =
    list_all_at (λ digit. is_digit digit 16) (known_word word) i 0 (rw (length-map word known_digit) within) (ap (λ digit. is_digit digit 16) (get_or-map known_digit word i 0 0 within) ∙ other)

-- ---- words of which all digits are known

apart : (c k : ℕ) → is_digit k 16 ≡ false → is_digit c 16 ≡ true → (c == k) ≡ false
apart c k other is = grind (arith, nat_tests, other, is)

digit-known : (c : ℕ) → is_digit c 16 ≡ true → is_unknown_digit c ≡ false
digit-known c is = rw (apart c 120 refl is, apart c 88 refl is, apart c 122 refl is, apart c 90 refl is) refl

known-same : (word : List ℕ) → all_digits 16 word ≡ true → known_word word ≡ word
known-same [] all = refl
known-same (c ∷ cs) all =
    let parts = and_parts (is_digit c 16) (all_digits 16 cs) all in
    ap₂ (λ d ds. d ∷ ds) (rw (digit-known c parts.0) refl) (known-same cs parts.1)

digit-at : (word : List ℕ) (k : ℕ) → all_digits 16 word ≡ true → is_digit (slice_index_or word k 48) 16 ≡ true
digit-at [] k all = refl
digit-at (c ∷ cs) zero all = (and_parts (is_digit c 16) (all_digits 16 cs) all).0
digit-at (c ∷ cs) (suc k) all = digit-at cs k (and_parts (is_digit c 16) (all_digits 16 cs) all).1

none-at : (word : List ℕ) (k : ℕ) → all_digits 16 word ≡ true → is_unknown_at word k ≡ false
none-at word k all = by_length (length word == 1) (nat_lt k (length word))
  where
    by_length : (one within : Bool) → is_unknown_digit (if one then slice_index_or word 0 48 else (if within then slice_index_or word (length word - 1 - k) 48 else 48)) ≡ false
    by_length true within = digit-known (slice_index_or word 0 48) (digit-at word 0 all)
    by_length false true = digit-known (slice_index_or word (length word - 1 - k) 48) (digit-at word (length word - 1 - k) all)
    by_length false false = refl

no-lanes : (word : List ℕ) → all_digits 16 word ≡ true → unknown_lanes word ≡ 0
no-lanes word all =
    rw (none-at word 0 all, none-at word 1 all, none-at word 2 all, none-at word 3 all, none-at word 4 all, none-at word 5 all, none-at word 6 all, none-at word 7 all, none-at word 8 all, none-at word 9 all, none-at word 10 all, none-at word 11 all, none-at word 12 all, none-at word 13 all, none-at word 14 all, none-at word 15 all) refl

hex-digits : (limit : ℕ) (word : List ℕ) → is_hex_to limit word ≡ true → all_digits 16 word ≡ true
hex-digits limit word is = (and_parts (nat_le 1 (length word) && nat_le (length word) 16) (all_digits 16 word) (and_parts _ _ is).0).1

-- then 0 is in the place of none, and no lane is unknown
pub all-known : (limit : ℕ) (word : List ℕ) → is_hex_to limit word ≡ true → (known_word word ≡ word) × (unknown_lanes word ≡ 0)
all-known limit word is = (known-same word (hex-digits limit word is), no-lanes word (hex-digits limit word is))

-- ---- a word that has a number

told : (form small : Bool) (value number : ℕ) → Some number ≡ (if form && small then Some value else None) → (form ≡ true) × (small ≡ true) × (number ≡ value)
told true true value number same = (refl, refl, ap (λ answer. unwrap_or answer 0) same)
told true false value number same = search rules
told false small value number same = search rules

pub known-read : (word : List ℕ) (number : ℕ) → Some number ≡ number_of 16 16 word → (is_hex_to 18446744073709551615 word ≡ true) × (number ≡ digits_value 16 word)
known-read word number same =
    let parts = told (are_digits 16 16 word) (nat_lt (digits_value 16 word) 18446744073709551616) (digits_value 16 word) number same in
    let small : nat_le (digits_value 16 word) 18446744073709551615 ≡ true = grind (arith, nat_tests, parts.1) in
    (rw (parts.0, small) refl, parts.2)
