-- What digits write, digit by digit.
use Rattle.std.proofs.Common.{T, cond, eqb, eqb→eq, subst, ◌≡◌, ◌<◌, ◌≤◌, ℕ, suc, ◌+◌, ◌*◌, ◌^◌, List, [], ◌∷◌, ◌++◌, length, take, drop, get_or, Bool, true, false, ◌&&◌, Option, Some, None, MatchOption, refl, sym, ap, ◌∙◌, arith, length-take-le, take_all, take-append-drop, rules}
use Rattle.std.proofs.Math.Nat.{pow-le-pow_right, mul-le-mul_right, pow-suc, pow-succ', pow-zero, mul-one, add-mul, mul_assoc, le_trans}
use Rattle.std.proofs.lemmas.Bool.{agree_below_at, and_parts}
use Rattle.std.proofs.lemmas.Bool.Decides.{nat_tests}
use Rattle.std.proofs.lemmas.Int.Digits.{digits_value-lt, digits_value_more}
use Rattle.std.proofs.lemmas.Nat.{pow-add}
use Rattle.std.proofs.lemmas.List.Folds.{list_all_more, list_all-append}
use Rattle.std.specs.Char.{is_digit, digit_value}
use Rattle.std.specs.List.{list_all}
use Rattle.std.specs.Str.Parse.{AllDigits, digits_value, digits_value_after}
use Rattle.line_text.specs.Words.{number_of}
use Rattle.line_text.specs.declared.numbers.TheConstants.{DIGITS}

-- the value of each byte as a digit, as it is looked up
digit_held : (byte : ℕ) → byte < 256 → get_or DIGITS.now byte 0 ≡ cond (is_digit byte 16) (digit_value byte) 4294967296
digit_held byte below = eqb→eq _ _ (subst T (sym (agree_below_at (λ b. eqb (get_or DIGITS.now b 0) (cond (is_digit b 16) (digit_value b) 4294967296)) (λ b. true) 256 byte refl below)) tt)

pub record IsHeld (byte held : ℕ) : Type 0 where
  pub digit : is_digit byte 16 ≡ true → held ≡ digit_value byte
  pub other : is_digit byte 16 ≡ false → held ≡ 4294967296
  pub bound : held ≤ 4294967296

held_as : (byte held : ℕ) (test : Bool) → is_digit byte 16 ≡ test → held ≡ cond test (digit_value byte) 4294967296 → IsHeld byte held
held_as byte held true is same = record { digit = λ _. same; other = λ no. absurd (grind (arith, is, no)); bound = grind (arith, nat_tests, is, same) }
held_as byte held false is same = record { digit = λ no. absurd (grind (arith, is, no)); other = λ _. same; bound = grind (arith, same) }

pub held_at : (byte : ℕ) → byte < 256 → IsHeld byte (get_or DIGITS.now byte 0)
held_at byte below = held_as byte (get_or DIGITS.now byte 0) (is_digit byte 16) refl (digit_held byte below)

-- a digit of a radix is one below it
pub digit_below : (byte radix : ℕ) → byte < 256 → radix ≤ 16 → get_or DIGITS.now byte 0 < radix → (is_digit byte radix ≡ true) × (get_or DIGITS.now byte 0 ≡ digit_value byte)
digit_below byte radix below few small = by_test (get_or DIGITS.now byte 0) (held_at byte below) small (is_digit byte 16) refl
  where
    by_test : (held : ℕ) → IsHeld byte held → held < radix → (test : Bool) → is_digit byte 16 ≡ test → (is_digit byte radix ≡ true) × (held ≡ digit_value byte)
    by_test held is small true digit = let same = is.digit digit in (grind (arith, nat_tests, same), same)
    by_test held is small false other = absurd (omega (arith, is.other other))

pub digit_above : (byte radix : ℕ) → byte < 256 → radix ≤ 16 → radix ≤ get_or DIGITS.now byte 0 → is_digit byte radix ≡ false
digit_above byte radix below few large = by_test (get_or DIGITS.now byte 0) (held_at byte below) large (is_digit byte 16) refl
  where
    by_test : (held : ℕ) → IsHeld byte held → radix ≤ held → (test : Bool) → is_digit byte 16 ≡ test → is_digit byte radix ≡ false
    by_test held is large true digit = let same = is.digit digit in grind (arith, nat_tests, same)
    by_test held is large false other = grind (arith, nat_tests, other)

-- whether each byte is a digit
abbrev pub all_digits : ℕ → List ℕ → Bool
all_digits radix word = list_all (λ digit. is_digit digit radix) word

is_digit-small : (c radix : ℕ) → is_digit c radix ≡ true → digit_value c < radix
is_digit-small c radix digit = grind (arith, nat_tests, digit)

all-digits : (radix : ℕ) (word : List ℕ) → all_digits radix word ≡ true → AllDigits radix word
all-digits radix [] all = tt
all-digits radix (c ∷ cs) all =
    let parts = and_parts (is_digit c radix) (all_digits radix cs) all in
    (is_digit-small c radix parts.0, all-digits radix cs parts.1)

front-fits : (radix : ℕ) (word : List ℕ) (i digit : ℕ) → i < length word → radix ^ length word ≤ 18446744073709551616 → all_digits radix (take i word) ≡ true → digit < radix
    → digits_value radix (take i word) * radix + digit < 18446744073709551616
front-fits radix word i digit within few all small =
    let front : digits_value radix (take i word) < radix ^ i =
    (let below = digits_value-lt radix (take i word) (all-digits radix (take i word) all) in
    let long = length-take-le i word (omega arith) in
    rw long at below) in
    let room : radix ^ suc i ≤ 18446744073709551616 = le_trans (pow-le-pow_right {n = radix} (omega arith) within) few in
    let step : (digits_value radix (take i word) + 1) * radix ≤ radix ^ i * radix = mul-le-mul_right radix (omega arith) in
    omega (arith, pow-suc radix i, room, step, add-mul (digits_value radix (take i word)) 1 radix, small)

-- the number of a front of a word and one digit more: it is in 64 bits where that of any word as long is
module _ (radix : ℕ) (word : List ℕ) (i value factor digit : ℕ) (within : i < length word) (all : all_digits radix (take i word) ≡ true) (read : value ≡ digits_value radix (take i word)) (same : factor ≡ radix) (is : is_digit (get_or word i 0) radix ≡ true) (one : digit ≡ digit_value (get_or word i 0)) where
  pub value-fits : radix ^ length word ≤ 18446744073709551616 → value * factor + digit < 18446744073709551616
  value-fits few =
      let small : digit < radix = omega (arith, one, is_digit-small (get_or word i 0) radix is) in
      rw (read, same) (front-fits radix word i digit within few all small)

  pub value-more : (all_digits radix (take (i + 1) word) ≡ true) × (value * factor + digit ≡ digits_value radix (take (i + 1) word))
  value-more =
      (list_all_more (λ d. is_digit d radix) word i 0 within ∙ rw (all, is) refl, rw (read, same, one) (sym (digits_value_more radix word i within)))

-- the digits of a word are those of its two parts
pub all_digits-parts : (radix : ℕ) (word : List ℕ) (i : ℕ) → all_digits radix word ≡ (all_digits radix (take i word) && all_digits radix (drop i word))
all_digits-parts radix word i = ap (all_digits radix) (sym (take-append-drop i word)) ∙ list_all-append (λ d. is_digit d radix) (take i word) (drop i word)

after-append : (radix n : ℕ) (xs ys : List ℕ) → digits_value_after radix n (xs ++ ys) ≡ digits_value_after radix (digits_value_after radix n xs) ys
after-append radix n [] ys = refl
after-append radix n (c ∷ cs) ys = after-append radix (n * radix + digit_value c) cs ys

after-split : (radix n : ℕ) (ds : List ℕ) → digits_value_after radix n ds ≡ n * radix ^ length ds + digits_value radix ds
after-split radix n [] =
    let one : n * radix ^ 0 ≡ n = ap (λ worth. n * worth) (pow-zero radix) ∙ mul-one n in
    let same : n ≡ n * radix ^ 0 + 0 = omega (arith, one) in same
after-split radix n (c ∷ cs) =
    let digit = digit_value c in
    let worth = radix ^ length cs in
    let front : digits_value_after radix n (c ∷ cs) ≡ (n * radix + digit) * worth + digits_value radix cs = after-split radix (n * radix + digit) cs in
    let alone : digits_value radix (c ∷ cs) ≡ (0 * radix + digit) * worth + digits_value radix cs = after-split radix (0 * radix + digit) cs in
    let none : 0 * radix + digit ≡ digit = omega arith in
    omega (
      arith,
      front,
      alone,
      ap (λ first. first * worth) none,
      ap (λ all. n * all) (pow-succ' radix (length cs)),
      add-mul (n * radix) digit worth,
      mul_assoc n radix worth,
    )

pub digits_value-parts : (radix : ℕ) (word : List ℕ) (i : ℕ) → digits_value radix word ≡ digits_value radix (take i word) * radix ^ length (drop i word) + digits_value radix (drop i word)
digits_value-parts radix word i =
    ap (digits_value radix) (sym (take-append-drop i word)) ∙ after-append radix 0 (take i word) (drop i word) ∙ after-split radix (digits_value radix (take i word)) (drop i word)

-- what so many bytes that are looked up make
pub record AreRead (bytes : List ℕ) (count value : ℕ) : Type 0 where
  pub bound : 15 * value + 4294967296 ≤ 4294967296 * 16 ^ count
  pub digits : all_digits 16 bytes ≡ true → value ≡ digits_value 16 bytes
  pub others : all_digits 16 bytes ≡ false → 4294967296 ≤ value

read_more : (word : List ℕ) (i value held : ℕ) → i < length word → IsHeld (get_or word i 0) held → AreRead (take i word) i value → AreRead (take (i + 1) word) (i + 1) (value * 16 + held)
read_more word i value held within is far = record {
  bound = omega (arith, far.bound, is.bound, pow-add 16 i 1);
  digits = λ all.
      let parts = and_parts (all_digits 16 (take i word)) (is_digit (get_or word i 0) 16) (sym more ∙ all) in
      omega (arith, far.digits parts.0, is.digit parts.1, digits_value_more 16 word i within);
  others = λ other. by_front (all_digits 16 (take i word)) (is_digit (get_or word i 0) 16) refl refl (sym more ∙ other);
}
  where
    more : all_digits 16 (take (i + 1) word) ≡ (all_digits 16 (take i word) && is_digit (get_or word i 0) 16)
    more = list_all_more (λ d. is_digit d 16) word i 0 within

    by_front : (front last : Bool) → all_digits 16 (take i word) ≡ front → is_digit (get_or word i 0) 16 ≡ last → (front && last) ≡ false → 4294967296 ≤ value * 16 + held
    by_front false last first second other = omega (arith, far.others first)
    by_front true false first second other = omega (arith, is.other second)
    by_front true true first second other = absurd (grind (arith, other))

pub read_next : (word : List ℕ) (i value byte : ℕ) → i < length word → byte ≡ get_or word i 0 → byte < 256 → AreRead (take i word) i value → AreRead (take (i + 1) word) (i + 1) (value * 16 + get_or DIGITS.now byte 0)
read_next word i value byte within same below far = read_more word i value (get_or DIGITS.now byte 0) within (subst (λ b. IsHeld b (get_or DIGITS.now byte 0)) same (held_at byte below)) far

-- eight digits have a number below what one byte makes that is none
pub read_others : (bytes : List ℕ) (count value : ℕ) → length bytes ≤ 8 → AreRead bytes count value → 4294967296 ≤ value → all_digits 16 bytes ≡ false
read_others bytes count value few far large = by_test (all_digits 16 bytes) refl
  where
    by_test : (test : Bool) → all_digits 16 bytes ≡ test → all_digits 16 bytes ≡ false
    by_test true all =
        absurd
        (omega (arith, far.digits all, large, digits_value-lt 16 bytes (all-digits 16 bytes all), pow-le-pow_right {n = 16} (omega arith) {i = length bytes} {j = 8} few))
    by_test false other = other

-- up to eight of them
pub read_fits : (bytes : List ℕ) (count value : ℕ) → count < 8 → AreRead bytes count value → value < 2 ^ 58
read_fits bytes count value few far = omega (arith, far.bound, pow-le-pow_right {n = 16} (omega arith) {i = count} {j = 7} (omega arith))

-- a number of so many digits
pub number_of-digits : (radix most : ℕ) (word : List ℕ) → 0 < length word → length word ≤ most → all_digits radix word ≡ true → digits_value radix word < 18446744073709551616
    → number_of radix most word ≡ Some (digits_value radix word)
number_of-digits radix most word some few all small = grind (arith, some, few, all, small)

-- any other word has none
pub number_of-none : (radix most : ℕ) (word : List ℕ) → (0 < length word → length word ≤ most → all_digits radix word ≡ true → digits_value radix word < 18446744073709551616 → ⊥) → number_of radix most word ≡ None
number_of-none radix most word never = grind (arith, never)

-- the last digit of a number of 20
pub longest : (word : List ℕ) → length word ≡ 20 → all_digits 10 (take 19 word) ≡ true → is_digit (get_or word 19 0) 10 ≡ true
    → (all_digits 10 word ≡ true) × (digits_value 10 word ≡ digits_value 10 (take 19 word) * 10 + digit_value (get_or word 19 0))
longest word long all digit =
    let more = value-more 10 word 19 (digits_value 10 (take 19 word)) 10 (digit_value (get_or word 19 0)) (omega arith) all refl refl digit refl in
    let whole = take_all 20 word (omega arith) in
    (ap (all_digits 10) (sym whole) ∙ more.0, ap (digits_value 10) (sym whole) ∙ sym more.1)

-- a word of one byte
pub number_of-one : (radix most : ℕ) (word : List ℕ) (result : Option ℕ) → 0 < most → radix ≤ 16 → length word ≡ 1
    → MatchOption result (is_digit (get_or word 0 0) radix ≡ false) (λ digit. (is_digit (get_or word 0 0) radix ≡ true) × (digit ≡ digit_value (get_or word 0 0))) → result ≡ number_of radix most word
number_of-one radix most [] result some few one reads = absurd (omega (arith, one))
number_of-one radix most (x ∷ y ∷ word) result some few one reads = absurd (omega (arith, one))
number_of-one radix most (x ∷ []) None some few one other = grind (arith, some, few, one, other, number_of-none radix most (x ∷ []))
number_of-one radix most (x ∷ []) (Some digit) some few one (is, same) =
    let value : digits_value radix (x ∷ []) ≡ digit_value x = omega arith in
    let small : digit_value x < radix = is_digit-small x radix is in
    ap Some (same ∙ sym value) ∙ sym (number_of-digits radix most (x ∷ []) (omega arith) (omega arith) (rw is refl) (omega (arith, value, small)))

-- a word in two parts of which one has a byte that is no digit
pub number_of-parts : (radix most : ℕ) (word : List ℕ) (i : ℕ) → (all_digits radix (take i word) && all_digits radix (drop i word)) ≡ false → number_of radix most word ≡ None
number_of-parts radix most word i other = number_of-none radix most word (λ some few all small. apart (sym all ∙ all_digits-parts radix word i ∙ other))
  where
    apart : true ≡ false → ⊥
    apart wrong = search rules
