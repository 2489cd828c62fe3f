-- The hexadecimal digits of a number, from the last on.
use Rattle.std.proofs.Common.{◌≡◌, ◌≢◌, ◌≤◌, ◌<◌, ◌==◌, ◌*◌, ◌&&◌, T, eqb, eqb→eq, eq-zero-or-pos, inl, inr, ℕ, zero, suc, ◌+◌, ◌-◌, ◌/◌, ◌%◌, ◌^◌, Bool, true, false, get_or, List, [], ◌∷◌, ◌++◌, length, length-append, length-drop, drop, take, replicate, refl, sym, ap, ap₂, subst, cond, ltb, bit_and, append-nil, ◌∙◌, arith, if◌then◌else◌}
use lib.Ieee.Fits.{and_l, and_r}
use Rattle.std.proofs.Math.Nat.{pow-suc}
use Rattle.std.proofs.lemmas.Bool.{agree_below_at, and_parts}
use Rattle.std.proofs.lemmas.Bool.Decides.{nat_tests}
use Rattle.std.specs.Fmt.{digits, digits_onto, digit_glyph}
use lib.Lanes.{top}
use Rattle.bus_words.specs.Text.{hex}
use Rattle.line_text.specs.declared.line.TheConstants.{PAIRS}

-- the last `count` digits of a number, in front of a text
abbrev pub last_digits : ℕ → ℕ → List ℕ → List ℕ
last_digits zero number text = text
last_digits (suc count) number text = last_digits count (number / 16) (digit_glyph false (number % 16) ∷ text)

zeros-more : (count : ℕ) (text : List ℕ) → replicate count 48 ++ 48 ∷ text ≡ replicate (suc count) 48 ++ text
zeros-more zero text = refl
zeros-more (suc count) text = ap (λ rest. 48 ∷ rest) (zeros-more count text)

last_digits-zero : (count : ℕ) (text : List ℕ) → last_digits count 0 text ≡ replicate count 48 ++ text
last_digits-zero zero text = refl
last_digits-zero (suc count) text = last_digits-zero count (48 ∷ text) ∙ zeros-more count text

-- the digits that a number needs, and zeros in front of them
last_digits-onto : (count fuel number : ℕ) (text : List ℕ) → 0 < count → count ≤ fuel → number < 16 ^ count
    → last_digits count number text ≡ replicate (count + length text - length (digits_onto fuel 16 false number text)) 48 ++ digits_onto fuel 16 false number text
last_digits-onto zero fuel number text some enough small = absurd (omega arith)
last_digits-onto (suc count) zero number text some enough small = absurd (omega arith)
last_digits-onto (suc count) (suc fuel) number text some enough small = by_rest (last_digits-onto count fuel (number / 16) (digit_glyph false (number % 16) ∷ text)) (number / 16 == 0) refl
  where
    glyph : ℕ
    glyph = digit_glyph false (number % 16)

    padded : List ℕ → List ℕ
    padded digits = replicate (suc count + length text - length digits) 48 ++ digits

    by_rest : (0 < count → count ≤ fuel → number / 16 < 16 ^ count
        → last_digits count (number / 16) (digit_glyph false (number % 16) ∷ text)
        ≡ replicate (count + length (digit_glyph false (number % 16) ∷ text) - length (digits_onto fuel 16 false (number / 16) (digit_glyph false (number % 16) ∷ text))) 48
        ++ digits_onto fuel 16 false (number / 16) (digit_glyph false (number % 16) ∷ text))
        → (test : Bool) → (number / 16 == 0) ≡ test
        → last_digits count (number / 16) (digit_glyph false (number % 16) ∷ text)
        ≡ replicate (suc count + length text - length (if number / 16 == 0 then digit_glyph false (number % 16) ∷ text else digits_onto fuel 16 false (number / 16) (digit_glyph false (number % 16) ∷ text))) 48
        ++ (if number / 16 == 0 then digit_glyph false (number % 16) ∷ text else digits_onto fuel 16 false (number / 16) (digit_glyph false (number % 16) ∷ text))
    by_rest more true last = grind (arith, more, last, last_digits-zero count (digit_glyph false (number % 16) ∷ text))
    by_rest more false other =
        let rest : number / 16 ≢ 0 = grind (arith, nat_tests, other) in
        let less : number / 16 < 16 ^ count = omega (arith, small, pow-suc 16 count) in
        let some : 0 < count = positive count less rest in
        let zeros : count + suc (length text) ≡ suc count + length text = omega arith in
        rw other
        (more some (omega (arith, enough)) less
        ∙ ap (λ n. replicate (n - length (digits_onto fuel 16 false (number / 16) (digit_glyph false (number % 16) ∷ text))) 48 ++ digits_onto fuel 16 false (number / 16) (digit_glyph false (number % 16) ∷ text)) zeros)
      where
        positive : (k : ℕ) → number / 16 < 16 ^ k → number / 16 ≢ 0 → 0 < k
        positive zero below not = absurd (not (omega (arith, below)))
        positive (suc k) below not = omega arith

last_digits-append : (count number : ℕ) (xs text : List ℕ) → last_digits count number (xs ++ text) ≡ last_digits count number xs ++ text
last_digits-append zero number xs text = refl
last_digits-append (suc count) number xs text = last_digits-append count (number / 16) (digit_glyph false (number % 16) ∷ xs) text

digits_onto-nil : (number : ℕ) → digits_onto 64 16 false number [] ≡ digits 16 false number
unfolding digits
digits_onto-nil number = refl

by_fuel : (fuel count number : ℕ) → digits_onto fuel 16 false number [] ≡ digits 16 false number → 0 < count → count ≤ fuel → number < 16 ^ count → last_digits count number [] ≡ hex count number
unfolding hex
by_fuel fuel count number all some enough small =
    let none : count + 0 ≡ count = omega arith in
    last_digits-onto count fuel number [] some enough small ∙ ap (λ numeral. replicate (count + 0 - length numeral) 48 ++ numeral) all ∙ ap (λ n. replicate (n - length (digits 16 false number)) 48 ++ digits 16 false number) none

-- the last digits of a number that has no more are the number in so many digits
pub last_digits-hex : (count number : ℕ) (text : List ℕ) → 0 < count → count ≤ 64 → number < 16 ^ count → last_digits count number text ≡ hex count number ++ text
last_digits-hex count number text some enough small = last_digits-append count number [] text ∙ ap (λ front. front ++ text) (by_fuel 64 count number (digits_onto-nil number) some enough small)

pub last_digits-alone : (count number : ℕ) → 0 < count → count ≤ 64 → number < 16 ^ count → last_digits count number [] ≡ hex count number
last_digits-alone count number some enough small = last_digits-hex count number [] some enough small ∙ append-nil (hex count number)

-- the last eight of 16 digits are those of a number that has no more
pub hex-end : (number : ℕ) → number < 16 ^ 8 → take 8 (drop 8 (hex 16 number)) ≡ hex 8 number
hex-end number small =
    let all : number < 16 ^ 16 = omega (arith, small) in
    ap (λ digits. take 8 (drop 8 digits)) (sym (last_digits-alone 16 number (omega arith) (omega arith) all)) ∙ last_digits-alone 8 number (omega arith) (omega arith) small

-- two digits more
pub last_digits-pair : (left rest : ℕ) (text : List ℕ) → 2 ≤ left
    → last_digits (left - 2) (rest / 256) (digit_glyph false (rest % 256 / 16) ∷ digit_glyph false (rest % 256 % 16) ∷ text) ≡ last_digits left rest text
last_digits-pair zero rest text some = absurd (omega arith)
last_digits-pair (suc zero) rest text some = absurd (omega arith)
last_digits-pair (suc (suc left)) rest text some = grind (arith, some)

-- ---- the digits of eight bytes, which are made lane by lane

-- the glyph of a digit, as a lane of bytes has it
abbrev glyph : ℕ → ℕ
glyph digit = (digit + cond (top 7 (cond (ltb 9 digit) 255 0)) 87 48) % 256

abbrev pair_onto : ℕ → List ℕ → List ℕ
pair_onto byte text = glyph (byte / 16) ∷ glyph (bit_and byte 15) ∷ text

abbrev is_pair : ℕ → Bool
is_pair byte = eqb (glyph (byte / 16)) (digit_glyph false (byte / 16)) && eqb (glyph (bit_and byte 15)) (digit_glyph false (byte % 16))

pair_onto-is : (byte : ℕ) (text : List ℕ) → byte < 256 → pair_onto byte text ≡ digit_glyph false (byte / 16) ∷ digit_glyph false (byte % 16) ∷ text
pair_onto-is byte text below =
    let parts = and_parts _ _ (agree_below_at is_pair (λ _. true) 256 byte refl below) in
    ap₂ (λ first second. first ∷ second ∷ text) (eqb→eq _ _ (subst T (sym parts.0) tt)) (eqb→eq _ _ (subst T (sym parts.1) tt))

-- the digits of the last so many bytes of a number
abbrev bytes_onto : ℕ → ℕ → List ℕ → List ℕ
bytes_onto zero number text = text
bytes_onto (suc count) number text = bytes_onto count (number / 256) (pair_onto (number % 256) text)

bytes_onto-last : (count number : ℕ) (text : List ℕ) → bytes_onto count number text ≡ last_digits (2 * count) number text
bytes_onto-last zero number text = refl
bytes_onto-last (suc count) number text =
    let less : 2 * count ≡ 2 * suc count - 2 = omega arith in
    bytes_onto-last count (number / 256) (pair_onto (number % 256) text)
    ∙ ap (last_digits (2 * count) (number / 256)) (pair_onto-is (number % 256) text (omega arith))
    ∙ ap (λ n. last_digits n (number / 256) (digit_glyph false (number % 256 / 16) ∷ digit_glyph false (number % 256 % 16) ∷ text)) less
    ∙ last_digits-pair (2 * suc count) number text (omega arith)

pub bytes_onto-hex : (number lanes : ℕ) → number < 2 ^ 64 → lanes ≡ number → bytes_onto 8 lanes [] ≡ hex 16 number
bytes_onto-hex number lanes fits is = ap (λ n. bytes_onto 8 n []) is ∙ bytes_onto-last 8 number [] ∙ last_digits-alone 16 number (omega arith) (omega arith) fits

-- the digits of a byte
abbrev pub AreDigits : ℕ → Type 0
AreDigits n = (get_or PAIRS.now (2 * n) 0 ≡ digit_glyph false (n / 16)) × (get_or PAIRS.now (2 * n + 1) 0 ≡ digit_glyph false (n % 16))

abbrev are_pairs : ℕ → Bool
are_pairs zero = true
are_pairs (suc n) = (eqb (get_or PAIRS.now (2 * n) 0) (digit_glyph false (n / 16)) && eqb (get_or PAIRS.now (2 * n + 1) 0) (digit_glyph false (n % 16))) && are_pairs n

digits_below : (count n : ℕ) → T (are_pairs count) → n < count → AreDigits n
digits_below zero n all below = absurd (omega arith)
digits_below (suc count) n all below =
    elim (eq-zero-or-pos (count - n)) [
      | inl last ↦ let e : n ≡ count = omega arith in let both = and_l _ (are_pairs count) all in rw e (eqb→eq _ _ (and_l _ _ both), eqb→eq _ _ (and_r _ _ both))
      | inr before ↦ digits_below count n (and_r _ (are_pairs count) all) (omega arith)
    ]

pub digits_at : (n : ℕ) → n < 256 → AreDigits n
digits_at n below = digits_below 256 n tt below

-- what is left of 64 bytes
pub room_in : (bytes view : List ℕ) (start : ℕ) → length bytes ≡ 64 → start ≤ 64 → drop start bytes ≡ view → start + length view ≡ 64
room_in bytes view start long within is = omega (arith, length-drop start bytes, ap length is, long, within)

-- what is left of them where a number was put in front
pub room_after : (bytes view old : List ℕ) (result start count : ℕ) → drop result bytes ≡ view ++ old → result + length view ≡ start → length view ≤ count → length (drop result bytes) ≤ length old + count
room_after bytes view old result start count is long few = omega (arith, ap length is, length-append view old, few)
