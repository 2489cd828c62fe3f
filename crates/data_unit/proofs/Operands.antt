-- The operand of an atomic: it comes in one beat, and is the number of the bytes that the request gives.
use Rattle.std.proofs.Common.{◌≡◌, ℕ, zero, suc, ◌+◌, ◌/◌, ◌^◌, ◌<◌, ◌≤◌, true, List, map, length, Option, Some, None, if◌then◌else◌, refl, sym, ◌∙◌, ap, arith, lit<}
use Rattle.std.specs.Prelude.{slice_get, unwrap_or}
use Rattle.std.specs.List.{range_with_len}
use Rattle.std.proofs.lemmas.Option.{slice_get-get_or}
use Rattle.std.proofs.lemmas.Simd.{map-map}
use Rattle.std.proofs.Math.Pow.{pow_mono}
use Rattle.bus_words.specs.Lanes.{lane_byte}
use Rattle.tl_messages.specs.Lanes.{lane_of}
use Rattle.tl_messages.specs.Operations.{beats_of, has_data}
use Rattle.tl_messages.specs.Requests.{HeldMessage, beat_at, byte_given, request_of}
use Rattle.tl_messages.specs.declared.MaskedWord.{MaskedWord}
use Rattle.data_unit.specs.Atomics.{operand_of}
use Rattle.data_unit.specs.Words.{merged, operand_in, value}
use Rattle.data_unit.proofs.ByteLaws.{lane_byte-past}
use Rattle.data_unit.proofs.WordLaws.{lane_byte-merged}

-- at most eight bytes come in one beat
pub single_beat : (size : ℕ) → size ≤ 3 → beats_of size true ≡ 1
single_beat size small = omega (arith, pow_mono {i = size} {j = 3} small)

same_numbers : (f g : ℕ → ℕ) (a n : ℕ) → ((i : ℕ) → i < a + n → f i ≡ g i) → map f (range_with_len a n) ≡ map g (range_with_len a n)
same_numbers f g a zero same = refl
same_numbers f g a (suc n) same = rw (same a (omega arith), same_numbers f g (a + 1) n (λ i below. same i (omega arith))) refl

-- the number that one beat's lanes hold, where those without a mask bit count as zero, is that of the bytes that the request gives
pub operand_made : (held : HeldMessage) → has_data held.operation ≡ true → held.size ≤ 3 → length held.beats ≡ 1
    → operand_in (merged 0 (beat_at held 0).word (beat_at held 0).mask) held.address held.size ≡ operand_of (request_of held)
operand_made held carries small single =
    ap (λ (bytes : List ℕ). value bytes)
    (same_numbers in_word (λ i. unwrap_or (given i) 0) 0 (2 ^ held.size) (λ i below. each i (omega (arith, below, pow_mono {i = held.size} {j = 3} small)))
    ∙ sym (map-map (λ (byte : Option ℕ). unwrap_or byte 0) given (range_with_len 0 (2 ^ held.size))))
  where
    beat : MaskedWord
    beat = beat_at held 0

    in_word : ℕ → ℕ
    in_word i = lane_byte (merged 0 beat.word beat.mask) (lane_of (held.address + i))

    given : ℕ → Option ℕ
    given i = if has_data held.operation then byte_given held.address held.beats i else None

    there : slice_get held.beats 0 ≡ Some beat
    there = slice_get-get_or held.beats 0 (record { word = 0; mask = 0 }) (omega (arith, single))

    each : (i : ℕ) → i < 8 → in_word i ≡ unwrap_or (given i) 0
    each i below =
        let first : i / 8 ≡ 0 = omega arith in
        let lane = lane_of (held.address + i) in
        rw (carries, first, there, lane_byte-merged 0 beat.word beat.mask lane (omega arith), lane_byte-past 0 0 lane (lit< tt) (omega arith)) (grind arith)
