-- Marks at places as the bits of a number: what a change of one is of the other.
use Rattle.std.proofs.Common.{◌≡◌, ℕ, zero, suc, ◌+◌, ◌-◌, ◌*◌, ◌/◌, ◌%◌, ◌^◌, ◌==◌, ◌<◌, ◌≤◌, Bool, true, false, ◌&&◌, min, List, [], ◌∷◌, ◌++◌, length, get_or, set, refl, ap, sym, ◌∙◌, arith, map, Some, None}
use Rattle.std.specs.Prelude.{if◌then◌else◌}
use Rattle.std.specs.List.{position, position_or_len, remove}
use Rattle.std.proofs.lemmas.Bool.{lt-ltb, le-ltb}
use Rattle.std.proofs.lemmas.Simd.{trailing_mask_l}
use lib.Lanes.{mask_l}
use lib.Count.{count_trailing_zeros}
use native.Mathlib.Nat.{two-pow-succ, zero-div, div-one, div-div-eq-div-mul, div-add-mod', mul_assoc, mul_comm, one-mul, pow-suc, min-zero, mod-lt}
use lib.Pow.{pow_mono}
use mir.Val.{bool_byte}
use Rattle.std.proofs.lemmas.Nat.{and-not, and_comm, and_mask, or_comm, or_shifted, pow_pos, shl_whole}
use lib.Bits.{bit_and, bit_or, and_self, and_step, and_zero_l, and_zero_r, or_step, or_zero_r}
use Rattle.bus_words.proofs.FirstPlaces.{position_is_first}
use Rattle.flight_table.specs.Marks.{both, marks_of, number_of, without_bit}
use Rattle.std.proofs.lemmas.Bool.Decides.{nat_tests}

abbrev bit : Bool → ℕ
bit mark = if mark then 1 else 0

pub below : (marks : List Bool) → number_of marks < 2 ^ length marks
below [] = omega arith
below (mark ∷ marks) = grind (arith, below marks, two-pow-succ (length marks))

lowest : (mark : Bool) (n : ℕ) → ((bit mark + 2 * n) % 2 ≡ bit mark) × ((bit mark + 2 * n) / 2 ≡ n)
lowest mark n = (grind arith, grind arith)

-- half of it, so many times
next_half : (mark : Bool) (n place : ℕ) → (bit mark + 2 * n) / 2 ^ suc place ≡ n / 2 ^ place
next_half mark n place =
    ap (λ d. (bit mark + 2 * n) / d) (pow-suc 2 place ∙ mul_comm (2 ^ place) 2) ∙ sym (div-div-eq-div-mul (bit mark + 2 * n) 2 (2 ^ place)) ∙ ap (λ h. h / 2 ^ place) (lowest mark n).1

byte_is : (mark : Bool) → bool_byte mark ≡ bit mark
byte_is mark = grind arith

small : (mark : Bool) → bool_byte mark < 2 ^ 1
small mark = grind arith

a_bit : (mark : Bool) → bit mark < 2 ^ 1
a_bit mark = grind arith

is_marked : (mark : Bool) → (bit mark == 1) ≡ mark
is_marked mark = grind arith

-- the bits of marks are these marks
pub same_marks : (marks : List Bool) → marks_of (length marks) (number_of marks) ≡ marks
same_marks [] = refl
same_marks (mark ∷ marks) = rw ((lowest mark (number_of marks)).0, (lowest mark (number_of marks)).1, is_marked mark, same_marks marks) refl

pub length-marks : (count bits : ℕ) → length (marks_of count bits) ≡ count
length-marks zero bits = refl
length-marks (suc count) bits = ap suc (length-marks count (bits / 2))

odd : (n : ℕ) → bit (n % 2 == 1) ≡ n % 2
odd n = grind (arith, nat_tests)

pub same_number : (count bits : ℕ) → bits < 2 ^ count → number_of (marks_of count bits) ≡ bits
same_number zero bits small = omega (arith, small)
same_number (suc count) bits small =
    let rest : number_of (marks_of count (bits / 2)) ≡ bits / 2 = same_number count (bits / 2) (omega (arith, small, two-pow-succ count)) in
    rw (rest, odd bits) (omega arith)

-- ---- one more

pub pushed : (marks : List Bool) (mark : Bool) → number_of (marks ++ mark ∷ []) ≡ number_of marks + bit mark * 2 ^ length marks
pushed [] mark = grind arith
pushed (m ∷ marks) mark = grind (arith, pushed marks mark, two-pow-succ (length marks))

-- ---- another one at its place

pub put_is : (marks : List Bool) (place : ℕ) (mark : Bool) → place < length marks
    → number_of (set marks place mark) + bit (get_or marks place false) * 2 ^ place ≡ number_of marks + bit mark * 2 ^ place
put_is [] place mark within = absurd (omega (arith, within))
put_is (m ∷ marks) zero mark within = omega arith
put_is (m ∷ marks) (suc place) mark within = grind (arith, two-pow-succ place, put_is marks place mark (omega (arith, within)))

-- ---- two lists at once

least : (a b : Bool) → min (bit a) (bit b) ≡ bit (a && b)
least a b = grind arith

pub both_bits : (marks others : List Bool) → bit_and (number_of marks) (number_of others) ≡ number_of (both marks others)
both_bits [] others = and_zero_l (number_of others)
both_bits (m ∷ marks) [] = and_zero_r (number_of (m ∷ marks))
both_bits (m ∷ marks) (o ∷ others) =
    and_step (number_of (m ∷ marks)) (number_of (o ∷ others))
    ∙ rw ((lowest m (number_of marks)).0, (lowest m (number_of marks)).1, (lowest o (number_of others)).0, (lowest o (number_of others)).1, both_bits marks others, least m o) (omega arith)

-- ---- a number and the marks that it is
pub as_marks : (count bits : ℕ) (marks : List Bool) → count ≡ length marks → bits ≡ number_of marks → marks_of count bits ≡ marks
as_marks count bits marks many is = rw (many, is) (same_marks marks)

pub as_number : (count bits : ℕ) (marks : List Bool) → marks_of count bits ≡ marks → bits < 2 ^ count → (count ≡ length marks) × (bits ≡ number_of marks)
as_number count bits marks is small = (sym (length-marks count bits) ∙ ap length is, sym (same_number count bits small) ∙ ap number_of is)

-- the number after one more mark
pub pushed_bits : (marks : List Bool) (mark : Bool) (value : ℕ) → length marks < 64 → value ≡ bool_byte mark
    → number_of marks + value * 2 ^ length marks % 18446744073709551616 ≡ number_of (marks ++ mark ∷ [])
pushed_bits marks mark value room is =
    let whole = shl_whole value 1 (length marks) 64 (rw is (small mark)) (omega (arith, room)) in
    rw (whole, is, byte_is mark) (sym (pushed marks mark))

pub bits_fit : (marks : List Bool) → length marks ≤ 64 → number_of marks < 18446744073709551616
bits_fit marks few = omega (arith, below marks, pow_mono {i = length marks} {j = 64} few)

-- the number after another mark at its place
bit_at_place : (marks : List Bool) (place : ℕ) → number_of marks / 2 ^ place % 2 ≡ bit (get_or marks place false)
bit_at_place [] place = ap (λ n. n % 2) (zero-div (2 ^ place))
bit_at_place (m ∷ marks) zero = ap (λ n. n % 2) (div-one (number_of (m ∷ marks))) ∙ (lowest m (number_of marks)).0
bit_at_place (m ∷ marks) (suc place) = ap (λ n. n % 2) (next_half m (number_of marks) place) ∙ bit_at_place marks place

old_is_less : (marks : List Bool) (place : ℕ) → place < length marks → bit (get_or marks place false) * 2 ^ place ≤ number_of marks
old_is_less marks place within = omega (arith, put_is marks place false within)

pub put_bits : (marks : List Bool) (place : ℕ) (mark : Bool) (value : ℕ) → place < length marks → length marks ≤ 64 → value ≡ bool_byte mark
    → number_of marks - number_of marks / 2 ^ place % 2 * 2 ^ place % 18446744073709551616 + value * 2 ^ place % 18446744073709551616 ≡ number_of (set marks place mark)
put_bits marks place mark value within few is =
    let old = bit (get_or marks place false) in
    let was : number_of marks / 2 ^ place % 2 ≡ old = bit_at_place marks place in
    let old_whole : old * 2 ^ place % 18446744073709551616 ≡ old * 2 ^ place = shl_whole old 1 place 64 (a_bit (get_or marks place false)) (omega (arith, within, few)) in
    let new_whole : value * 2 ^ place % 18446744073709551616 ≡ value * 2 ^ place = shl_whole value 1 place 64 (rw is (small mark)) (omega (arith, within, few)) in
    rw (was, old_whole, new_whole, is, byte_is mark)
    (moved (number_of marks) (old * 2 ^ place) (bit mark * 2 ^ place) (number_of (set marks place mark)) (old_is_less marks place within) (put_is marks place mark within))
  where
    moved : (n o m r : ℕ) → o ≤ n → r + o ≡ n + m → n - o + m ≡ r
    moved n o m r less same = omega (arith, less, same)

-- the number after a mark was taken out
pub removed_is : (marks : List Bool) (place : ℕ) → place < length marks
    → number_of (remove marks place) ≡ without_bit place (number_of marks)
removed_is [] place within = absurd (omega (arith, within))
removed_is (m ∷ marks) zero within = grind (arith, within, lowest m (number_of marks))
removed_is (m ∷ marks) (suc place) within =
    let n = number_of marks in
    let rest : number_of (remove marks place) ≡ without_bit place n = removed_is marks place (omega (arith, within)) in
    rw (next_half m n place)
    (parted (bit m) n (n / 2 ^ place * 2 ^ place) (n % 2 ^ place) (n / 2 ^ place / 2 * 2 ^ place) (number_of (remove marks place)) ((bit m + 2 * n) % 2 ^ suc place) ((bit m + 2 * n) / 2 ^ suc place * 2 ^ suc place)
    (n / 2 ^ place / 2 * 2 ^ suc place) rest (div-add-mod' n (2 ^ place)) (div-add-mod' (bit m + 2 * n) (2 ^ suc place)) (rw (next_half m n place) (doubled (n / 2 ^ place) place)) (doubled (n / 2 ^ place / 2) place))
  where
    doubled : (q p : ℕ) → q * 2 ^ suc p ≡ 2 * (q * 2 ^ p)
    doubled q p = rw (pow-suc 2 p, ← mul_assoc q (2 ^ p) 2) (omega arith)

    parted : (b n low_part low high r whole_rest whole_part high_part : ℕ) → r ≡ low + high → low_part + low ≡ n → whole_part + whole_rest ≡ b + 2 * n → whole_part ≡ 2 * low_part → high_part ≡ 2 * high
        → b + 2 * r ≡ whole_rest + high_part
    parted b n low_part low high r whole_rest whole_part high_part is one two three four = omega (arith, is, one, two, three, four)

-- ---- the first that is marked

abbrev pub is_set : Bool → Bool
is_set mark = mark

mask : (marks : List Bool) → mask_l (map is_set marks) ≡ number_of marks
mask [] = refl
mask (mark ∷ marks) = grind (arith, mask marks)

none_set : (marks : List Bool) → number_of marks ≡ 0 → position_or_len is_set marks ≡ length marks
none_set [] none = refl
none_set (mark ∷ marks) none = grind (arith, none_set marks)

some_set : (marks : List Bool) → 0 < number_of marks → position_or_len is_set marks < length marks
some_set [] some = absurd (omega (arith, some))
some_set (mark ∷ marks) some = grind (arith, some_set marks)

pub first_none : (marks : List Bool) → number_of marks ≡ 0 → position is_set marks ≡ None
first_none marks none = rw (none_set marks none, le-ltb (length marks) (length marks) (omega arith)) refl

pub first_some : (marks : List Bool) → 0 < number_of marks → length marks ≤ 64 → position is_set marks ≡ Some (count_trailing_zeros 64 (number_of marks))
first_some marks some few =
    let place : count_trailing_zeros 64 (number_of marks) ≡ position_or_len is_set marks =
    ap (count_trailing_zeros 64) (sym (mask marks)) ∙ trailing_mask_l is_set 64 marks few (rw (mask marks) some) in
    rw (place, lt-ltb (position_or_len is_set marks) (length marks) (some_set marks some)) refl

-- a number and the one below it share all bits but the lowest that is set
abbrev without_lowest : ℕ → ℕ
without_lowest n = bit_and n (n - 1)

lowest_is_set : (n : ℕ) → without_lowest (1 + 2 * n) ≡ 2 * n
lowest_is_set n =
    let half : (1 + 2 * n) / 2 ≡ n = omega arith in
    let half_below : (1 + 2 * n - 1) / 2 ≡ n = omega arith in
    let even : (1 + 2 * n - 1) % 2 ≡ 0 = omega arith in
    and_step (1 + 2 * n) (1 + 2 * n - 1) ∙ rw (half, half_below, even, and_self n, min-zero ((1 + 2 * n) % 2)) (omega arith)

lowest_is_unset : (n : ℕ) → without_lowest (0 + 2 * n) ≡ 2 * without_lowest n
lowest_is_unset zero = refl
lowest_is_unset (suc n) =
    let half : (0 + 2 * suc n) / 2 ≡ suc n = omega arith in
    let half_below : (0 + 2 * suc n - 1) / 2 ≡ suc n - 1 = omega arith in
    let even : (0 + 2 * suc n) % 2 ≡ 0 = omega arith in
    and_step (0 + 2 * suc n) (0 + 2 * suc n - 1) ∙ rw (half, half_below, even) (omega arith)

-- the marks without the first of them
first_cleared : (marks : List Bool) → without_lowest (number_of marks) ≡ number_of (set marks (position_or_len is_set marks) false)
first_cleared [] = refl
first_cleared (true ∷ marks) = lowest_is_set (number_of marks) ∙ omega arith
first_cleared (false ∷ marks) =
    let next : 1 + position_or_len is_set marks ≡ suc (position_or_len is_set marks) = omega arith in
    lowest_is_unset (number_of marks) ∙ rw (next, first_cleared marks) (omega arith)

pub first_taken : (marks : List Bool) (place : ℕ) → position is_set marks ≡ Some place
    → bit_and (number_of marks) (number_of marks - 1) ≡ number_of (set marks place false)
first_taken marks place at = first_cleared marks ∙ ap (λ k. number_of (set marks k false)) (position_is_first is_set marks place at).first

-- a bit above all others
pub unit_is : (place : ℕ) → place < 64 → 1 * 2 ^ place % 18446744073709551616 ≡ 2 ^ place
unit_is place small = shl_whole 1 1 place 64 (omega arith) (omega (arith, small)) ∙ one-mul (2 ^ place)

-- and one that is set
pub or_put : (marks : List Bool) (place : ℕ) → place < length marks → bit_or (number_of marks) (2 ^ place) ≡ number_of (set marks place true)
or_put [] place within = absurd (omega (arith, within))
or_put (m ∷ marks) zero within = or_step (number_of (m ∷ marks)) 1 ∙ rw ((lowest m (number_of marks)).0, (lowest m (number_of marks)).1) (grind (arith, or_zero_r (number_of marks)))
or_put (m ∷ marks) (suc place) within =
    let half : 2 ^ suc place / 2 ≡ 2 ^ place = omega (arith, two-pow-succ place) in
    let even : 2 ^ suc place % 2 ≡ 0 = omega (arith, two-pow-succ place) in
    or_step (number_of (m ∷ marks)) (2 ^ suc place)
    ∙ rw ((lowest m (number_of marks)).0, (lowest m (number_of marks)).1, half, even, or_put marks place (omega (arith, within))) (grind arith)

pub length-both : (marks others : List Bool) → length (both marks others) ≤ length marks
length-both [] others = omega arith
length-both (m ∷ marks) [] = omega arith
length-both (m ∷ marks) (o ∷ others) = omega (arith, length-both marks others)

-- ---- a bit taken out, by masks

-- what a mask of so many lowest bits leaves
above : (n place : ℕ) → n < 18446744073709551616 → place < 64 → bit_and n (18446744073709551615 - (2 ^ place - 1)) ≡ n / 2 ^ place * 2 ^ place
above n place fits within =
    let low : bit_and (2 ^ place - 1) n ≡ n % 2 ^ place = and_comm (2 ^ place - 1) n ∙ and_mask n place in
    let mask_small : 2 ^ place - 1 < 2 ^ 64 = omega (arith, pow_mono {i = place} {j = 64} (omega (arith, within))) in
    let parts : bit_and (18446744073709551615 - (2 ^ place - 1)) n + bit_and (2 ^ place - 1) n ≡ n = and-not 64 (2 ^ place - 1) n mask_small fits in
    and_comm n (18446744073709551615 - (2 ^ place - 1)) ∙ omega (arith, rw low at parts, div-add-mod' n (2 ^ place))

pub masked_out : (bits place : ℕ) → place < 64 → bits < 18446744073709551616
    → bit_or (bit_and bits (2 ^ place - 1)) (bit_and (bits / 2) (18446744073709551615 - (2 ^ place - 1))) ≡ without_bit place bits
masked_out bits place within fits =
    let half : bits / 2 / 2 ^ place ≡ bits / 2 ^ place / 2 =
    div-div-eq-div-mul bits 2 (2 ^ place) ∙ ap (λ d. bits / d) (mul_comm 2 (2 ^ place)) ∙ sym (div-div-eq-div-mul bits (2 ^ place) 2) in
    rw (and_mask bits place, above (bits / 2) place (omega (arith, fits)) within, half)
    (or_comm (bits % 2 ^ place) (bits / 2 ^ place / 2 * 2 ^ place)
    ∙ or_shifted (bits / 2 ^ place / 2) place (bits % 2 ^ place) (mod-lt bits (pow_pos place)) ∙ omega arith)
