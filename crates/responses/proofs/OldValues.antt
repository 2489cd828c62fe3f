-- The reply to an atomic gives the bytes of its old value.
use Rattle.std.proofs.Common.{◌≡◌, ℕ, zero, suc, ◌+◌, ◌/◌, ◌%◌, ◌^◌, ◌<◌, ◌≤◌, ◌==◌, List, ◌∷◌, map, length, get_or, Option, Some, None, Bool, true, false, not, ◌&&◌, nat_le, true≢false, if◌then◌else◌, refl, sym, ◌∙◌, ap, arith}
use Rattle.std.specs.Prelude.{is_none, option_map, slice_get, unwrap_or}
use Rattle.std.specs.List.{list_any, range_with_len}
use Rattle.std.proofs.Math.Pow.{pow_pos}
use Rattle.std.proofs.lemmas.List.FromFn.{length-map-range_with_len, get_or-map-range_with_len, fill_by_all}
use Rattle.std.proofs.lemmas.List.{length-map}
use Rattle.std.proofs.lemmas.Option.{slice_get-get_or, slice_get-map, get_or_from_slice_get, none-some, same_Some}
use Rattle.bus_words.specs.Lanes.{lane_byte}
use Rattle.tl_messages.specs.Lanes.{lane_of}
use Rattle.data_unit.specs.Words.{bytes_of, operand_in, value}
use Rattle.data_unit.proofs.AlignedLanes.{aligned_within}
use Rattle.data_unit.specs.Atomics.{modulus}
use Rattle.data_unit.proofs.AtomicLaws.{modulus-some}
use Rattle.data_unit.proofs.WordLaws.{bytes_of-operand_in, operand_in-lt}
use Rattle.responses.specs.Answers.{number_of}
use Rattle.responses.specs.Gathered.{Gathering, byte_gathered, gathered, holds_number, is_atomic, old_value}
use Rattle.tl_messages.specs.Operations.{reply_has_data}
use Rattle.tl_messages.specs.declared.Operation.{Operation}
use Rattle.tl_messages.specs.declared.Operation.TheVariants.{Atomic}
use Rattle.std.specs.Option.{option_flatten}
use Rattle.std.proofs.lemmas.Bool.{and_parts, eqb-true, leb-true}
use Rattle.responses.specs.declared.gather.Outline.{Outline}

-- the bytes of a range in its one word
pub bytes_of_word : (outline : Outline) (words : List (Option ℕ)) (word : ℕ) → outline.size ≤ 3 → outline.address % 2 ^ outline.size ≡ 0 → slice_get words 0 ≡ Some (Some word)
    → map Some (bytes_of (2 ^ outline.size) (operand_in word outline.address outline.size)) ≡ map (byte_gathered outline words) (range_with_len 0 (2 ^ outline.size))
bytes_of_word outline words word small aligned there =
    let byte : ℕ → ℕ = λ i. lane_byte word (lane_of (outline.address + i)) in
    let length_is : length (map Some (map byte (range_with_len 0 (2 ^ outline.size)))) ≡ 2 ^ outline.size =
    length-map (map byte (range_with_len 0 (2 ^ outline.size))) Some ∙ length-map-range_with_len byte 0 (2 ^ outline.size) in
    let each : (k : ℕ) → k < 2 ^ outline.size → get_or (map Some (map byte (range_with_len 0 (2 ^ outline.size)))) k None ≡ byte_gathered outline words k = λ k below.
    let listed : slice_get (map byte (range_with_len 0 (2 ^ outline.size))) k ≡ Some (byte k) =
    slice_get-get_or (map byte (range_with_len 0 (2 ^ outline.size))) k 0 (rw (length-map-range_with_len byte 0 (2 ^ outline.size)) below)
    ∙ ap (λ (n : ℕ). Some n) (get_or-map-range_with_len byte 0 (2 ^ outline.size) k k 0 below (omega arith)) in
    let found : slice_get (map Some (map byte (range_with_len 0 (2 ^ outline.size)))) k ≡ Some (Some (byte k)) =
    slice_get-map Some (map byte (range_with_len 0 (2 ^ outline.size))) k ∙ ap (λ (o : Option ℕ). option_map Some o) listed in
    let first : (lane_of outline.address + k) / 8 ≡ 0 = omega (arith, aligned_within outline.address outline.size small aligned) in
    get_or_from_slice_get (map Some (map byte (range_with_len 0 (2 ^ outline.size)))) k (Some (byte k)) None found ∙ sym (rw (first, there) refl) in
    ap (map Some) (bytes_of-operand_in word outline.address outline.size small)
    ∙ fill_by_all (byte_gathered outline words) (map Some (map byte (range_with_len 0 (2 ^ outline.size)))) (2 ^ outline.size) None length_is each

-- the reply to an atomic has data
pub atomic_has_data : (op : Operation) → is_atomic op ≡ true → reply_has_data op ≡ true
atomic_has_data (Atomic op) e = refl
atomic_has_data _ e = absurd (true≢false (sym e))

-- a number's range is small and aligned
pub number_range : (outline : Outline) → holds_number outline ≡ true → (outline.size ≤ 3) × (outline.address % 2 ^ outline.size ≡ 0)
number_range outline holds =
    let both = and_parts (nat_le outline.size 3) (outline.address % 2 ^ outline.size == 0) holds in
    (leb-true outline.size 3 both.0, eqb-true (outline.address % 2 ^ outline.size) 0 both.1)

-- the old value's bytes are those of the reply
pub old_bytes : (outline : Outline) (gathering : Gathering) (old : ℕ) → old_value outline gathering ≡ Some old
    → (gathered outline gathering).bytes ≡ map Some (bytes_of (2 ^ outline.size) old)
old_bytes outline gathering old is = by_test (is_atomic outline.operation && not gathering.denied && holds_number outline) refl is
  where
    by_word : (o : Option (Option ℕ)) → slice_get gathering.words 0 ≡ o → is_atomic outline.operation ≡ true → not gathering.denied ≡ true → holds_number outline ≡ true
        → option_map (λ word. operand_in word outline.address outline.size) (option_flatten o) ≡ Some old → (gathered outline gathering).bytes ≡ map Some (bytes_of (2 ^ outline.size) old)
    by_word None there atomic granted holds e = absurd (none-some old e)
    by_word (Some None) there atomic granted holds e = absurd (none-some old e)
    by_word (Some (Some word)) there atomic granted holds e =
        let (small, aligned) = number_range outline holds in
        rw (atomic_has_data outline.operation atomic, granted)
        (sym (bytes_of_word outline gathering.words word small aligned there) ∙ ap (λ n. map Some (bytes_of (2 ^ outline.size) n)) (same_Some (operand_in word outline.address outline.size) old e))

    by_test : (b : Bool) → (is_atomic outline.operation && not gathering.denied && holds_number outline) ≡ b
        → (if b then option_map (λ word. operand_in word outline.address outline.size) (option_flatten (slice_get gathering.words 0)) else None) ≡ Some old
        → (gathered outline gathering).bytes ≡ map Some (bytes_of (2 ^ outline.size) old)
    by_test false t e = absurd (none-some old e)
    by_test true t e =
        let both = and_parts (is_atomic outline.operation && not gathering.denied) (holds_number outline) t in
        let first = and_parts (is_atomic outline.operation) (not gathering.denied) both.0 in
        by_word (slice_get gathering.words 0) refl first.0 first.1 both.1 e

-- ---- the number of the reply's bytes

none_is_none : (f : ℕ → ℕ) (a n : ℕ) → list_any is_none (map (λ i. Some (f i)) (range_with_len a n)) ≡ false
none_is_none f a zero = refl
none_is_none f a (suc n) = none_is_none f (a + 1) n

all_given : (f : ℕ → ℕ) (a n : ℕ) → map (λ byte. unwrap_or byte 0) (map (λ i. Some (f i)) (range_with_len a n)) ≡ map f (range_with_len a n)
all_given f a zero = refl
all_given f a (suc n) = ap (λ (rest : List ℕ). f a ∷ rest) (all_given f (a + 1) n)

pub number_given : (f : ℕ → ℕ) (a n : ℕ) → number_of (map (λ i. Some (f i)) (range_with_len a n)) ≡ Some (value (map f (range_with_len a n)))
number_given f a n = rw (none_is_none f a n) (ap (λ (bytes : List ℕ). Some (value bytes)) (all_given f a n))

pub number_none : (a n : ℕ) → 0 < n → number_of (map {B = Option ℕ} (λ i. None) (range_with_len a n)) ≡ None
number_none a zero some = absurd (omega arith)
number_none a (suc n) some = refl

pub map_same : (f g : ℕ → Option ℕ) (a n : ℕ) → ((i : ℕ) → a ≤ i → i < a + n → f i ≡ g i) → map f (range_with_len a n) ≡ map g (range_with_len a n)
map_same f g a zero same = refl
map_same f g a (suc n) same = rw (same a (omega arith) (omega arith), map_same f g (a + 1) n (λ i low high. same i (omega arith) (omega arith))) refl

-- an atomic's old value is the number of the bytes that its reply gives
pub old_number : (outline : Outline) (gathering : Gathering) → is_atomic outline.operation ≡ true → gathering.denied ≡ false → holds_number outline ≡ true
    → old_value outline gathering ≡ number_of (gathered outline gathering).bytes
old_number outline gathering atomic granted holds =
    rw (atomic, granted, holds, atomic_has_data outline.operation atomic) (by_word (option_flatten (slice_get gathering.words 0)) refl)
  where
    range_is : (outline.size ≤ 3) × (outline.address % 2 ^ outline.size ≡ 0)
    range_is = number_range outline holds

    first : (i : ℕ) → i < 2 ^ outline.size → (lane_of outline.address + i) / 8 ≡ 0
    first i below = omega (arith, aligned_within outline.address outline.size range_is.0 range_is.1)

    bytes_by : (o : Option ℕ) → option_flatten (slice_get gathering.words 0) ≡ o
        → map (byte_gathered outline gathering.words) (range_with_len 0 (2 ^ outline.size)) ≡ map (λ i. option_map (λ w. lane_byte w (lane_of (outline.address + i))) o) (range_with_len 0 (2 ^ outline.size))
    bytes_by o there =
        map_same (byte_gathered outline gathering.words) (λ i. option_map (λ w. lane_byte w (lane_of (outline.address + i))) o) 0 (2 ^ outline.size) (λ i low below. rw (first i (omega arith), there) refl)

    by_word : (o : Option ℕ) → option_flatten (slice_get gathering.words 0) ≡ o
        → option_map (λ word. operand_in word outline.address outline.size) o ≡ number_of (map (byte_gathered outline gathering.words) (range_with_len 0 (2 ^ outline.size)))
    by_word None there = sym (ap number_of (bytes_by None there) ∙ number_none 0 (2 ^ outline.size) (pow_pos outline.size))
    by_word (Some w) there =
        sym (ap number_of (bytes_by (Some w) there) ∙ number_given (λ i. lane_byte w (lane_of (outline.address + i))) 0 (2 ^ outline.size))

-- the old value is a number of the operands' size
pub old_small : (outline : Outline) (gathering : Gathering) → outline.size ≤ 3 → outline.address % 2 ^ outline.size ≡ 0 → unwrap_or (old_value outline gathering) 0 < modulus (2 ^ outline.size)
old_small outline gathering small aligned = grind (arith, modulus-some (2 ^ outline.size), λ (word : ℕ). operand_in-lt word outline.address outline.size small aligned)
