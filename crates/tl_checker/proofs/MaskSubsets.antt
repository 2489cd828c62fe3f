-- Whether a mask has a lane outside another, by the lanes that both have.
use Rattle.std.proofs.Common.{◌≡◌, ℕ, zero, suc, ◌+◌, ◌<◌, ◌≤◌, ◌==◌, Bool, false, not, refl, sym, ◌∙◌, ap, arith, inl, inr}
use Rattle.std.specs.Prelude.{◌&&◌, bit_and}
use Rattle.std.specs.Int.Bits.{and_lt}
use Rattle.std.specs.List.{list_any, range_with_len}
use Rattle.std.proofs.lemmas.Bool.{cases_eq, eq-eqb, ne_eqb, or_parts, true_from_ne_false}
use Rattle.bus_words.specs.Lanes.{has_lane}
use Rattle.bus_words.proofs.MaskLaws.{has_lane-and, same_lanes}

-- a range none of whose numbers passes, and one where some test fails throughout
none_passes : (p : ℕ → Bool) (a n : ℕ) → ((k : ℕ) → a ≤ k → k < a + n → p k ≡ false) → list_any p (range_with_len a n) ≡ false
none_passes p a zero fails = refl
none_passes p a (suc n) fails = rw (fails a (omega arith) (omega arith)) (none_passes p (a + 1) n (λ k from below. fails k (omega arith) (omega arith)))

pub each_fails : (p : ℕ → Bool) (a n : ℕ) → list_any p (range_with_len a n) ≡ false → (k : ℕ) → a ≤ k → k < a + n → p k ≡ false
each_fails p a zero none k from below = absurd (omega arith)
each_fails p a (suc n) none k from below =
    let parts = or_parts (p a) (list_any p (range_with_len (a + 1) n)) none in
    elim (cases_eq k a) [ inl here ↦ rw here parts.0 | inr later ↦ each_fails p (a + 1) n parts.1 k (omega arith) (omega arith) ]

-- a mask that is kept whole by another has no lane outside it, and one that isn't has one
pub not_kept-outside : (mask full : ℕ) (inside : ℕ → Bool) → mask < 256 → full < 256 → ((lane : ℕ) → lane < 8 → has_lane full lane ≡ inside lane)
    → not (bit_and mask full == mask) ≡ list_any (λ lane. has_lane mask lane && not (inside lane)) (range_with_len 0 8)
not_kept-outside mask full inside fits small lanes =
    let outside : ℕ → Bool = λ lane. has_lane mask lane && not (inside lane) in
    let both : (lane : ℕ) → lane < 8 → has_lane (bit_and mask full) lane ≡ (has_lane mask lane && inside lane) = λ lane below.
    has_lane-and mask full lane ∙ ap (λ b. has_lane mask lane && b) (lanes lane below) in
    let none_out : (b i : Bool) → b ≡ (b && i) → (b && not i) ≡ false = λ b i same. grind arith in
    let all_in : (b i : Bool) → (b && not i) ≡ false → (b && i) ≡ b = λ b i none. grind arith in
    let within : bit_and mask full ≡ mask → (lane : ℕ) → lane < 8 → outside lane ≡ false = λ kept lane below.
    none_out (has_lane mask lane) (inside lane) (ap (λ m. has_lane m lane) (sym kept) ∙ both lane below) in
    let stays : list_any outside (range_with_len 0 8) ≡ false → (lane : ℕ) → lane < 8 → has_lane (bit_and mask full) lane ≡ has_lane mask lane = λ none lane below.
    both lane below ∙ all_in (has_lane mask lane) (inside lane) (each_fails outside 0 8 none lane (omega arith) below) in
    elim (cases_eq (bit_and mask full) mask) [
      | inl kept ↦ ap not (eq-eqb (bit_and mask full) mask kept) ∙ sym (none_passes outside 0 8 (λ lane from below. within kept lane below))
      | inr cut ↦
          ap not (ne_eqb (bit_and mask full) mask cut)
          ∙ sym (true_from_ne_false (list_any outside (range_with_len 0 8)) (λ none. cut (same_lanes (bit_and mask full) mask (and_lt 8 mask full fits small) fits (λ lane below. stays none lane below))))
    ]
