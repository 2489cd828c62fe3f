-- The pieces of a range: how many they are, where each lies, and that they are a plan.
use Rattle.std.proofs.Common.{◌≡◌, ℕ, zero, suc, ◌+◌, ◌-◌, ◌*◌, ◌/◌, ◌%◌, ◌^◌, ◌<◌, ◌≤◌, ◌==◌, Bool, true, List, map, length, min, max, refl, sym, ◌∙◌, ap, arith, inl, inr, ◌⊎◌, Some}
use Rattle.std.specs.List.{range_with_len, list_any, slice_get, flat_map}
use Rattle.std.proofs.lemmas.List.FromFn.{fill_by_all, length-map-range_with_len, get_or-map-range_with_len}
use Rattle.std.proofs.lemmas.List.Elements.{All-from_get_or}
use Rattle.std.proofs.lemmas.List.Concat.{flat_map-cons}
use Rattle.std.proofs.lemmas.List.Folds.{flat_map-map}
use Rattle.std.proofs.lemmas.Option.{slice_get-get_or, slice_get_within, get_or_from_slice_get}
use Rattle.std.proofs.lemmas.Bool.{cases_Bool, cases_lt, eqb-true, eq-eqb, and_from, le-leb, lt-ltb}
use Rattle.std.proofs.lemmas.Nat.{div-mul-add, div-add-mod', pow-add, pow_pos, shl-shr}
use Rattle.std.proofs.Math.Nat.{mul-le-mul_right, mul-mod_left}
use Rattle.std.proofs.Math.Pow.{pow_mono}
use Rattle.axi_beats.specs.Transfers.{last_byte}
use Rattle.axi_beats.proofs.Ranges.{range_with_len-append-range_with_len}
use Rattle.burst_plan.specs.Pieces.{PlannedRange, beat_size, IsPlannable, widest_size, cut_bytes, part_start, part_end, first_cut, range_end, piece_from_cut, pieces, piece_addresses, piece_bytes, piece_end, IsPartOf, IsPlan}
use Rattle.burst_plan.specs.PlannedTransfers.{beat_bytes, burst_bytes, burst_beats}
use Rattle.burst_plan.specs.declared.Piece.{Piece}
use Rattle.burst_plan.proofs.Cuts.{IsDivided, divided, held_between}

-- ---- pieces by their number

-- how many bursts there are
abbrev pub burst_count : PlannedRange → ℕ
burst_count range = 2 ^ range.size / burst_bytes range

-- burst k, from 0: all bursts of a plan have the same bytes
abbrev pub piece_at : PlannedRange → ℕ → Piece
piece_at range k = record { address = range.address + k * burst_bytes range; len = burst_beats range - 1; size = beat_size range }

-- ---- powers of two

-- a number of a range that passes a test
abbrev PassesBelow : (ℕ → Bool) → ℕ → Type 0
PassesBelow p end = (k : ℕ) × (k < end) × (p k ≡ true)

-- some number of a range passes a test, where the test of them all says so
any_of_range : (p : ℕ → Bool) (a n : ℕ) → list_any p (range_with_len a n) ≡ true → PassesBelow p (a + n)
any_of_range p a zero found = absurd (cc)
any_of_range p a (suc n) found =
    elim (cases_Bool (p a)) [
      | inl first ↦ (a, omega arith, first)
      | inr fails ↦ let (k, below, passes) = any_of_range p (a + 1) n (rw fails at found) in (k, omega arith, passes)
    ]

-- the bytes of the bus and the most transfers of a burst, as powers of two
pub record ArePowers (range : PlannedRange) (w j : ℕ) : Type 0 where
  pub bus : range.bus_bytes ≡ 2 ^ w
  pub widest : widest_size range.bus_bytes ≡ w
  pub max_len : range.max_len ≡ 2 ^ j
  pub narrow : w ≤ 3
  pub few : j ≤ 8

powers_of : (range : PlannedRange) → IsPlannable range → (w : ℕ) × (j : ℕ) × ArePowers range w j
powers_of range plannable =
    let (j, below, tested) = any_of_range (λ k. range.max_len == 2 ^ k) 0 9 plannable.max_len in
    elim plannable.bus [
      | inl four ↦ (2, j, record { bus = four; widest = rw four refl; max_len = eqb-true range.max_len (2 ^ j) tested; narrow = omega arith; few = omega arith })
      | inr eight ↦ (3, j, record { bus = eight; widest = rw eight refl; max_len = eqb-true range.max_len (2 ^ j) tested; narrow = omega arith; few = omega arith })
    ]

-- the lesser of two powers is that of the lesser exponent
min-pow : (i j : ℕ) → min (2 ^ i) (2 ^ j) ≡ 2 ^ min i j
min-pow i j =
    elim (cases_lt i j) [
      | inl below ↦ let least : min i j ≡ i = omega arith in rw least (omega (arith, pow_mono {i = i} {j = j} (omega arith)))
      | inr above ↦ let least : min i j ≡ j = omega arith in rw least (omega (arith, pow_mono {i = j} {j = i} above))
    ]

-- the bytes between cuts, of a burst and of a transfer, as powers of two
cut_power : (range : PlannedRange) (w j : ℕ) → ArePowers range w j → cut_bytes range ≡ 2 ^ (w + j)
cut_power range w j powers = ap (λ z. z * range.max_len) powers.bus ∙ ap (λ z. 2 ^ w * z) powers.max_len ∙ sym (pow-add 2 w j)

burst_power : (range : PlannedRange) (w j : ℕ) → ArePowers range w j → burst_bytes range ≡ 2 ^ min range.size (w + j)
burst_power range w j powers = ap (λ z. min (2 ^ range.size) z) (cut_power range w j powers) ∙ min-pow range.size (w + j)

beat_power : (range : PlannedRange) (w j : ℕ) → ArePowers range w j → beat_bytes range ≡ 2 ^ min range.size w
beat_power range w j powers = ap (λ z. 2 ^ min range.size z) powers.widest

-- ---- how a range is divided

-- a range, its bursts and their transfers divide evenly
pub record DividesEvenly (range : PlannedRange) : Type 0 where
  pub parts : IsDivided range.address (2 ^ range.size) (cut_bytes range) (burst_bytes range) (burst_count range)
  pub beats : burst_bytes range ≡ burst_beats range * beat_bytes range
  pub some_beats : 1 ≤ burst_beats range
  pub few_beats : burst_beats range ≤ 256
  pub beat : 0 < beat_bytes range
  pub fits_bus : beat_bytes range ≤ range.bus_bytes
  pub wide : beat_bytes range ≡ min (2 ^ range.size) range.bus_bytes
  pub aligned : range.address / beat_bytes range * beat_bytes range ≡ range.address

-- a quotient of powers
div-pow : (i j : ℕ) → j ≤ i → 2 ^ i / 2 ^ j ≡ 2 ^ (i - j)
div-pow i j below = let parts : i ≡ i - j + j = omega arith in ap (λ z. 2 ^ z / 2 ^ j) parts ∙ ap (λ z. z / 2 ^ j) (pow-add 2 (i - j) j) ∙ shl-shr (2 ^ (i - j)) j

-- a power is a smaller one, and what is left of it
pub pow-split : (i j : ℕ) → j ≤ i → 2 ^ i ≡ 2 ^ (i - j) * 2 ^ j
pow-split i j below = let parts : i ≡ i - j + j = omega arith in ap (λ z. 2 ^ z) parts ∙ pow-add 2 (i - j) j

-- the same of plain numbers: n bytes at a, a bus of 2^w bytes, bursts of at most 2^j transfers
even_powers : (a s w j bus cut burst beat : ℕ) → a % 2 ^ s ≡ 0 → bus ≡ 2 ^ w → cut ≡ 2 ^ (w + j) → burst ≡ 2 ^ min s (w + j) → beat ≡ 2 ^ min s w → j ≤ 8
    → IsDivided a (2 ^ s) cut burst (2 ^ s / burst) × (burst ≡ burst / beat * beat) × (1 ≤ burst / beat) × (burst / beat ≤ 256) × (0 < beat) × (beat ≤ bus)
    × (beat ≡ min (2 ^ s) bus) × (a / beat * beat ≡ a)
even_powers a s w j bus cut burst beat aligned bus_is cut_is burst_is beat_is few =
    let smaller : min s w ≤ min s (w + j) = omega arith in
    let counts : 2 ^ s / 2 ^ min s (w + j) ≡ 2 ^ (s - min s (w + j)) = div-pow s (min s (w + j)) (omega arith) in
    let beats : 2 ^ min s (w + j) / 2 ^ min s w ≡ 2 ^ (min s (w + j) - min s w) = div-pow (min s (w + j)) (min s w) smaller in
    let least : min s w ≤ s = omega arith in
    let whole : a ≡ a / 2 ^ s * 2 ^ (s - min s w) * 2 ^ min s w + 0 =
    omega (arith, div-add-mod' a (2 ^ s), ap (λ z. a / 2 ^ s * z) (pow-split s (min s w) least)) in
    let rest : a / 2 ^ min s w * 2 ^ min s w ≡ a =
    let quotient : a / 2 ^ min s w ≡ a / 2 ^ s * 2 ^ (s - min s w) = ap (λ z. z / 2 ^ min s w) whole ∙ div-mul-add (a / 2 ^ s * 2 ^ (s - min s w)) (2 ^ min s w) 0 (pow_pos (min s w)) in rw quotient (omega (arith, whole)) in
    rw (bus_is, cut_is, burst_is, beat_is, counts, beats) (
      divided a s (w + j) aligned,
      pow-split (min s (w + j)) (min s w) smaller,
      pow_pos (min s (w + j) - min s w),
      pow_mono {i = min s (w + j) - min s w} {j = 8} (omega arith),
      pow_pos (min s w),
      pow_mono {i = min s w} {j = w} (omega arith),
      sym (min-pow s w),
      rest,
    )

divides_evenly_with : (range : PlannedRange) (w j : ℕ) → IsPlannable range → ArePowers range w j → DividesEvenly range
divides_evenly_with range w j plannable powers =
    let parts = even_powers range.address range.size w j range.bus_bytes (cut_bytes range) (burst_bytes range) (beat_bytes range) plannable.aligned powers.bus (cut_power range w j powers) (burst_power range w j powers) (beat_power range w j powers) powers.few in
    record { parts = parts.0; beats = parts.1; some_beats = parts.2; few_beats = parts.3; beat = parts.4; fits_bus = parts.5; wide = parts.6; aligned = parts.7 }

pub divides_evenly : (range : PlannedRange) → IsPlannable range → DividesEvenly range
divides_evenly range plannable = let (w, j, powers) = powers_of range plannable in divides_evenly_with range w j plannable powers

-- of a range's transfers, those of a burst, which are 2^e, and the bursts
pub record AreCounted (range : PlannedRange) (transfers each e : ℕ) : Type 0 where
  pub power : each ≡ 2 ^ e
  pub small : e ≤ 8
  pub beats : each ≡ burst_beats range
  pub bursts : transfers / 2 ^ e ≡ burst_count range

counted_with : (range : PlannedRange) (w j size transfers each : ℕ) → ArePowers range w j → size ≡ beat_size range → transfers ≡ 2 ^ (range.size - size) → each ≡ min transfers range.max_len
    → AreCounted range transfers each (min (range.size - min range.size w) j)
counted_with range w j size transfers each powers size_is transfers_are each_is =
    let s = range.size in
    let beat : size ≡ min s w = size_is ∙ ap (min s) powers.widest in
    let all : transfers ≡ 2 ^ (s - min s w) = transfers_are ∙ ap (λ z. 2 ^ (s - z)) beat in
    let power : each ≡ 2 ^ min (s - min s w) j = each_is ∙ ap (min transfers) powers.max_len ∙ ap (λ z. min z (2 ^ j)) all ∙ min-pow (s - min s w) j in
    let parts : min s (w + j) - min s w ≡ min (s - min s w) j = omega arith in
    let rest : s - min s w - min (s - min s w) j ≡ s - min s (w + j) = omega arith in
    record {
      power = power;
      small = omega (arith, powers.few);
      beats = power ∙ sym (rw (burst_power range w j powers, beat_power range w j powers, div-pow (min s (w + j)) (min s w) (omega arith), parts) refl);
      bursts = rw (all, burst_power range w j powers, div-pow (s - min s w) (min (s - min s w) j) (omega arith), div-pow s (min s (w + j)) (omega arith), rest) refl;
    }

-- a burst has the lesser of the range's transfers and the most that it may have
pub counted : (range : PlannedRange) (size transfers each : ℕ) → IsPlannable range → size ≡ beat_size range → transfers ≡ 2 ^ (range.size - size) → each ≡ min transfers range.max_len
    → (e : ℕ) × AreCounted range transfers each e
counted range size transfers each plannable size_is transfers_are each_is =
    let (w, j, powers) = powers_of range plannable in
    (min (range.size - min range.size w) j, counted_with range w j size transfers each powers size_is transfers_are each_is)

-- ---- the pieces, one by one

-- the piece from a cut, by its number
pub piece_from_cut-at : (range : PlannedRange) → DividesEvenly range → (k : ℕ) → k < burst_count range → piece_from_cut range (first_cut range + k) ≡ piece_at range k
piece_from_cut-at range even k below =
    let start : part_start range (first_cut range + k) ≡ range.address + k * burst_bytes range = even.parts.begins k below in
    let end : part_end range (first_cut range + k) ≡ range.address + k * burst_bytes range + burst_bytes range = even.parts.ends k below in
    let bytes : part_end range (first_cut range + k) - part_start range (first_cut range + k) ≡ burst_bytes range = rw (start, end) (omega arith) in
    rw (bytes, start) refl

-- the pieces are those from the range's start on, one after another
pub pieces_are : (range : PlannedRange) → DividesEvenly range → pieces range ≡ map (piece_at range) (range_with_len 0 (burst_count range))
pieces_are range even =
    ap (λ n. map (piece_from_cut range) (range_with_len (first_cut range) n)) even.parts.cuts
    ∙ fill_by_all (piece_at range) (map (piece_from_cut range) (range_with_len (first_cut range) (burst_count range))) (burst_count range) (piece_at range 0)
    (length-map-range_with_len (piece_from_cut range) (first_cut range) (burst_count range))
    (λ k below. get_or-map-range_with_len (piece_from_cut range) (first_cut range) (burst_count range) k (first_cut range + k) (piece_at range 0) below refl ∙ piece_from_cut-at range even k below)

-- how many they are
pub length-pieces : (range : PlannedRange) → DividesEvenly range → length (pieces range) ≡ burst_count range
length-pieces range even = ap length (pieces_are range even) ∙ length-map-range_with_len (piece_at range) 0 (burst_count range)

-- each by its number
pub slice_get-pieces : (range : PlannedRange) → DividesEvenly range → (k : ℕ) → k < burst_count range → slice_get (pieces range) k ≡ Some (piece_at range k)
slice_get-pieces range even k below =
    let within : k < length (map (piece_at range) (range_with_len 0 (burst_count range))) = rw (length-map-range_with_len (piece_at range) 0 (burst_count range)) below in
    ap (λ parts. slice_get parts k) (pieces_are range even)
    ∙ slice_get-get_or (map (piece_at range) (range_with_len 0 (burst_count range))) k (piece_at range 0) within
    ∙ ap (λ piece. Some piece) (get_or-map-range_with_len (piece_at range) 0 (burst_count range) k k (piece_at range 0) below (omega arith))

-- what stands at a place is the piece of that number
pub piece_listed : (range : PlannedRange) → DividesEvenly range → (k : ℕ) (piece : Piece) → slice_get (pieces range) k ≡ Some piece → (k < burst_count range) × (piece ≡ piece_at range k)
piece_listed range even k piece listed =
    let within = slice_get_within (pieces range) k piece listed in
    let below : k < burst_count range = omega (arith, within, length-pieces range even) in
    let there = slice_get-pieces range even k below in
    (below, cc)

-- ---- the pieces as bursts

-- a piece has the bytes of a burst
pub piece_bytes-at : (range : PlannedRange) → DividesEvenly range → (k : ℕ) → piece_bytes (piece_at range k) ≡ burst_bytes range
piece_bytes-at range even k = let all : burst_beats range - 1 + 1 ≡ burst_beats range = omega (arith, even.some_beats) in rw all (sym even.beats)

-- a piece lies in the range
pub piece_within : (range : PlannedRange) → DividesEvenly range → (k : ℕ) → k < burst_count range → range.address + k * burst_bytes range + burst_bytes range ≤ range_end range
piece_within range even k below =
    let rows : (k + 1) * burst_bytes range ≤ burst_count range * burst_bytes range = mul-le-mul_right (burst_bytes range) (omega arith) in
    omega (arith, even.parts.whole)

-- a piece begins at a multiple of a transfer's bytes
pub piece_aligned : (range : PlannedRange) → DividesEvenly range → (k : ℕ) → (piece_at range k).address / beat_bytes range * beat_bytes range ≡ (piece_at range k).address
piece_aligned range even k =
    let T = beat_bytes range in
    let rows : (piece_at range k).address ≡ (range.address / T + k * burst_beats range) * T + 0 = omega (arith, even.aligned, ap (λ z. k * z) even.beats) in
    let quotient : (piece_at range k).address / T ≡ range.address / T + k * burst_beats range = ap (λ z. z / T) rows ∙ div-mul-add (range.address / T + k * burst_beats range) T 0 even.beat in
    rw quotient (omega (arith, rows))

-- what lies between two cuts has them as its quotients
same_quotient : (a b step q : ℕ) → q * step ≤ a → a < b → b ≤ q * step + step → a / step ≡ (b - 1) / step
same_quotient a b step q low some high =
    let first : a ≡ q * step + (a - q * step) = omega arith in
    let last : b - 1 ≡ q * step + (b - 1 - q * step) = omega arith in
    (ap (λ z. z / step) first ∙ div-mul-add q step (a - q * step) (omega arith)) ∙ sym (ap (λ z. z / step) last ∙ div-mul-add q step (b - 1 - q * step) (omega arith))

-- what is the larger of two numbers is one of them
max_is : (a b m : ℕ) → max a b ≡ m → (m ≡ a) ⊎ (m ≡ b)
max_is a b m e = elim (cases_lt a b) [ inl below ↦ inr (omega arith) | inr above ↦ inl (omega arith) ]

min_is : (a b m : ℕ) → min a b ≡ m → (m ≡ a) ⊎ (m ≡ b)
min_is a b m e = elim (cases_lt a b) [ inl below ↦ inl (omega arith) | inr above ↦ inr (omega arith) ]

multiple : (m q step : ℕ) → m ≡ q * step → m % step ≡ 0
multiple m q step e = rw e (mul-mod_left q step)

-- 4,096 bytes at most, at a multiple of their number, lie in one page
pub range_in_page : (range : PlannedRange) → IsPlannable range → (range.address / 4096 * 4096 ≤ range.address) × (range_end range ≤ range.address / 4096 * 4096 + 4096)
range_in_page range plannable =
    let rows : range.address / 2 ^ range.size * 2 ^ range.size ≡ range.address = omega (arith, div-add-mod' range.address (2 ^ range.size), plannable.aligned) in
    let page : 4096 ≡ 2 ^ range.size * 2 ^ (12 - range.size) = omega (arith, pow-split 12 range.size plannable.size) in
    (rw (← page, rows) at (held_between (2 ^ range.size) (2 ^ (12 - range.size)) (range.address / 2 ^ range.size) (pow_pos range.size) (pow_pos (12 - range.size))))

-- a piece's last byte
pub last_byte-at : (range : PlannedRange) → DividesEvenly range → (k : ℕ) → last_byte (piece_at range k).address (piece_at range k).len (piece_at range k).size ≡ piece_end (piece_at range k) - 1
last_byte-at range even k = ap (λ z. z + piece_bytes (piece_at range k) - 1) (piece_aligned range even k)

pub is_part : (range : PlannedRange) → IsPlannable range → DividesEvenly range → (k : ℕ) → k < burst_count range → IsPartOf range (piece_at range k)
is_part range plannable even k below =
    let bytes = piece_bytes-at range even k in
    let begins = even.parts.begins k below in
    let ends = even.parts.ends k below in
    let some = even.parts.some in
    let end : piece_end (piece_at range k) ≡ range.address + k * burst_bytes range + burst_bytes range = ap (λ z. range.address + k * burst_bytes range + z) bytes in
    let page = range_in_page range plannable in
    let within = piece_within range even k below in
    record {
      uncut = same_quotient (piece_at range k).address (piece_end (piece_at range k)) (cut_bytes range) (first_cut range + k) (omega arith) (omega arith) (omega arith);
      begins = elim (max_is _ _ _ begins) [ inl here ↦ inl here | inr cut ↦ inr (multiple _ _ _ cut) ];
      ends = elim (min_is _ _ _ ends) [ inl here ↦ inl (end ∙ here) | inr cut ↦ inr (multiple _ _ _ (end ∙ cut)) ];
      wide = even.wide;
      legal = and_from _ _ (and_from _ _ (and_from _ _ (le-leb _ _ even.fits_bus) refl) (lt-ltb _ _ (omega (arith, even.few_beats))))
          (eq-eqb _ _ (rw (last_byte-at range even k) (same_quotient (piece_at range k).address (piece_end (piece_at range k)) 4096 (range.address / 4096) (omega arith) (omega arith) (omega arith))));
    }

-- lists of as many neighbours each, one after another
flat_map_evenly : (f : ℕ → List ℕ) (a b i n : ℕ) → ((k : ℕ) → k < i + n → f k ≡ range_with_len (a + k * b) b) → flat_map f (range_with_len i n) ≡ range_with_len (a + i * b) (n * b)
flat_map_evenly f a b i zero each = let none : 0 * b ≡ 0 = omega arith in rw none refl
flat_map_evenly f a b i (suc n) each =
    let here = each i (omega arith) in
    let rest = flat_map_evenly f a b (i + 1) n (λ k below. each k (omega arith)) in
    let next : a + (i + 1) * b ≡ a + i * b + b = omega arith in
    let whole : suc n * b ≡ b + n * b = omega arith in
    flat_map-cons f i (range_with_len (i + 1) n)
    ∙ rw (here, rest, next, whole) (range_with_len-append-range_with_len (a + i * b) b (n * b))

pub is_plan : (range : PlannedRange) → IsPlannable range → IsPlan range (pieces range)
is_plan range plannable =
    let even = divides_evenly range plannable in
    let start : range.address + 0 * burst_bytes range ≡ range.address = omega arith in
    record {
      covers = ap (flat_map piece_addresses) (pieces_are range even) ∙ flat_map-map piece_addresses (piece_at range) (range_with_len 0 (burst_count range))
          ∙ flat_map_evenly (λ k. piece_addresses (piece_at range k)) range.address (burst_bytes range) 0 (burst_count range)
          (λ k below. ap (λ n. range_with_len (range.address + k * burst_bytes range) n) (piece_bytes-at range even k))
          ∙ rw start (ap (λ n. range_with_len range.address n) (sym even.parts.whole));
      whole = All-from_get_or (IsPartOf range) (pieces range) (piece_at range 0)
          (λ k within.
          let below : k < burst_count range = omega (arith, length-pieces range even) in
          rw (get_or_from_slice_get (pieces range) k (piece_at range k) (piece_at range 0) (slice_get-pieces range even k below)) (is_part range plannable even k below));
    }
