-- What the code of a plan computes.
use Rattle.std.proofs.Common.{◌≡◌, ℕ, zero, suc, ◌+◌, ◌-◌, ◌*◌, ◌/◌, ◌%◌, ◌^◌, ◌<◌, ◌≤◌, List, map, length, Some, sym, ◌∙◌, ap, arith, refl, min, w16, inl, inr}
use Rattle.std.specs.List.{slice_get, range_with_len, sum_by}
use Rattle.std.proofs.Math.Pow.{pow-lt, pow_mono}
use Rattle.std.proofs.lemmas.Bool.{cases_eq}
use Rattle.std.proofs.lemmas.Nat.{one_shl, div-mul-add, pow_pos}
use Rattle.std.proofs.lemmas.Nat.Bits.{bit_at-pow_other, bit_at-trailing_zeros}
use Rattle.std.specs.Int.{trailing_zeros}
use Rattle.burst_plan.specs.Pieces.{PlannedRange, IsPlannable, beat_size, pieces}
use Rattle.burst_plan.specs.PlannedTransfers.{IsReckoned, beat_bytes, burst_beats, burst_bytes}
use Rattle.burst_plan.specs.declared.Piece.{Piece}
use Rattle.std.proofs.lemmas.List.Sums.{sum_by-cons}
use Rattle.burst_plan.proofs.PieceLaws.{burst_count, counted, divides_evenly, length-pieces, piece_at, piece_within, pieces_are, range_in_page, slice_get-pieces}

-- the place of the one bit of a power of two
trailing_zeros-pow : (e : ℕ) → e < 16 → trailing_zeros w16 (2 ^ e) ≡ e
trailing_zeros-pow e below =
    let zeros = bit_at-trailing_zeros w16 (2 ^ e) (pow_pos e) (pow-lt below) in
    elim (cases_eq (trailing_zeros w16 (2 ^ e)) e) [
      | inl same ↦ same
      | inr other ↦ absurd (omega (arith, zeros.1, bit_at-pow_other e (trailing_zeros w16 (2 ^ e)) other))
    ]

-- there is one
pub some_bursts : (range : PlannedRange) → IsPlannable range → 1 ≤ length (pieces range)
some_bursts range plannable = let even = divides_evenly range plannable in rw (length-pieces range even) even.parts.parts

-- what the code keeps of a range: from its transfers, and those of a burst
pub reckoned : (range : PlannedRange) (size transfers each : ℕ) → IsPlannable range → size ≡ beat_size range → transfers ≡ 2 ^ (range.size - size) → each ≡ min transfers range.max_len
    → IsReckoned range (transfers / 2 ^ trailing_zeros w16 each) (each - 1) size
reckoned range size transfers each plannable size_is transfers_are each_is =
    let (e, are) = counted range size transfers each plannable size_is transfers_are each_is in
    let place : trailing_zeros w16 each ≡ e = ap (trailing_zeros w16) are.power ∙ trailing_zeros-pow e (omega (arith, are.small)) in
    record {
      plannable = plannable;
      bursts = ap (λ z. transfers / 2 ^ z) place ∙ are.bursts ∙ sym (length-pieces range (divides_evenly range plannable));
      transfers = ap (λ z. z - 1) are.beats;
      width = size_is;
    }

-- the bytes of a burst as the code reckons them
pub bytes_made : (range : PlannedRange) (count len size more : ℕ) → IsReckoned range count len size → more ≡ len → (more + 1) * 2 ^ size % 2 ^ 32 ≡ burst_bytes range
bytes_made range count len size more is same =
    let even = divides_evenly range is.plannable in
    let each : more + 1 ≡ burst_beats range = omega (arith, same, is.transfers, even.some_beats) in
    let bytes : (more + 1) * 2 ^ size ≡ burst_bytes range = ap (λ z. z * 2 ^ size) each ∙ ap (λ z. burst_beats range * 2 ^ z) is.width ∙ sym even.beats in
    let few : 2 ^ range.size ≤ 2 ^ 12 = pow_mono {i = range.size} {j = 12} is.plannable.size in
    rw bytes (omega (arith, few))

-- burst k as the code makes it
pub burst_made : (range : PlannedRange) (count len size bytes k : ℕ) → IsReckoned range count len size → bytes ≡ burst_bytes range → k < length (pieces range)
    → slice_get (pieces range) k ≡ Some (record { address = range.address + k * bytes; len = len; size = size })
burst_made range count len size bytes k is bytes_is below =
    let even = divides_evenly range is.plannable in
    let within : k < burst_count range = omega (arith, length-pieces range even) in
    rw (bytes_is, is.transfers, is.width) (slice_get-pieces range even k within)

-- its address has 32 bits
pub burst_fits : (range : PlannedRange) (bytes k : ℕ) → IsPlannable range → range.address < 2 ^ 32 → bytes ≡ burst_bytes range → k < length (pieces range) → range.address + k * bytes < 2 ^ 32
burst_fits range bytes k plannable small bytes_is below =
    let even = divides_evenly range plannable in
    let within : k < burst_count range = omega (arith, length-pieces range even) in
    let page = range_in_page range plannable in
    let inside = piece_within range even k within in
    let some = even.parts.some in
    rw bytes_is (omega arith)

sum_alike : (f : ℕ → Piece) (m a n : ℕ) → ((k : ℕ) → (f k).len + 1 ≡ m) → sum_by (λ (piece : Piece). piece.len + 1) (map f (range_with_len a n)) ≡ n * m
sum_alike f m a zero each = let none : 0 * m ≡ 0 = omega arith in rw none refl
sum_alike f m a (suc n) each =
    let more : suc n * m ≡ m + n * m = omega arith in
    rw (sum_by-cons (λ (piece : Piece). piece.len + 1) (f a) (map f (range_with_len (a + 1) n)), each a, sum_alike f m (a + 1) n each, more) refl

-- how many transfers the code counts
pub beats_counted : (range : PlannedRange) (size : ℕ) → IsPlannable range → size ≡ beat_size range → 1 * 2 ^ range.size % 2 ^ 16 / 2 ^ size ≡ sum_by (λ (piece : Piece). piece.len + 1) (pieces range)
beats_counted range size plannable is =
    let even = divides_evenly range plannable in
    let whole : 1 * 2 ^ range.size % 2 ^ 16 ≡ 2 ^ range.size = one_shl range.size 16 (omega (arith, plannable.size)) in
    let rows : 2 ^ range.size ≡ burst_count range * burst_beats range * beat_bytes range + 0 = even.parts.whole ∙ ap (λ z. burst_count range * z) even.beats ∙ omega arith in
    let quotient : 2 ^ range.size / beat_bytes range ≡ burst_count range * burst_beats range = ap (λ z. z / beat_bytes range) rows ∙ div-mul-add (burst_count range * burst_beats range) (beat_bytes range) 0 even.beat in
    ap (λ z. z / 2 ^ size) whole ∙ ap (λ s. 2 ^ range.size / 2 ^ s) is ∙ quotient
    ∙ sym (ap (λ (parts : List Piece). sum_by (λ (piece : Piece). piece.len + 1) parts) (pieces_are range even) ∙ sum_alike (piece_at range) (burst_beats range) 0 (burst_count range) (λ k. omega (arith, even.some_beats)))
