-- Where byte i of a range stands among its reads: in which transfer, which word, and which lane.
use Rattle.std.proofs.Common.{◌≡◌, ℕ, zero, suc, ◌+◌, ◌-◌, ◌*◌, ◌/◌, ◌%◌, ◌^◌, ◌<◌, ◌≤◌, ◌==◌, ◌⊎◌, ◌≢◌, min, max, sym, subst, ◌∙◌, ap, arith, inl, inr}
use Rattle.std.proofs.Math.Nat.{zero-div}
use Rattle.std.proofs.Math.Pow.{pow_pos}
use Rattle.std.proofs.lemmas.Bool.{cases_lt, le-leb, lt-leb}
use Rattle.std.proofs.lemmas.Bool.Decides.{eqb_tells}
use Rattle.bus_words.specs.Lanes.{lane_byte}
use Rattle.tl_messages.specs.Lanes.{lane_of}
use Rattle.data_unit.proofs.ByteLaws.{lane_byte-down}
use Rattle.axi_beats.specs.Transfers.{IsBusWidth}
use Rattle.responses.specs.Gathered.{half_of_read, of_halves, with_half, with_payload, word_of_read}
use Rattle.responses.specs.declared.gather.Outline.{Outline}
use Rattle.responses.proofs.ReadLaws.{eighths, narrow, whole_words}

-- ---- the transfer of a byte

-- the transfer that reads byte i is one of the range's, and brings the byte's word, and on a bus of four the byte's half of it
pub record IsPlaced (bus_bytes : ℕ) (outline : Outline) (i : ℕ) : Type 0 where
  pub inside : i / min (2 ^ outline.size) bus_bytes < max 1 (2 ^ outline.size / bus_bytes)
  pub word : word_of_read bus_bytes outline (i / min (2 ^ outline.size) bus_bytes) ≡ (lane_of outline.address + i) / 8
  pub half : bus_bytes ≡ 4 → half_of_read outline (i / min (2 ^ outline.size) bus_bytes) % 2 ≡ lane_of (outline.address + i) / 4

-- fewer than eight bytes are read by one transfer, and stand in one half of a word
in_narrow : (address size i : ℕ) → size < 3 → address % 2 ^ size ≡ 0 → i < 2 ^ size
    → (i / min (2 ^ size) 4 ≡ 0) × (i / min (2 ^ size) 8 ≡ 0) × (lane_of address + i < 8) × (lane_of (address + i) / 4 ≡ lane_of address / 4)
in_narrow address zero i small aligned below = (omega arith, omega arith, omega arith, omega arith)
in_narrow address (suc zero) i small aligned below = (omega arith, omega arith, omega arith, omega arith)
in_narrow address (suc (suc zero)) i small aligned below = (omega arith, omega arith, omega arith, omega arith)
in_narrow address (suc (suc (suc size))) i small aligned below = absurd (omega arith)

-- the bytes of a transfer of a wide range
wide_transfer : (size : ℕ) → 3 ≤ size → (min (2 ^ size) 4 ≡ 4) × (min (2 ^ size) 8 ≡ 8)
wide_transfer size big = let (whole, many) = eighths size big in (omega arith, omega arith)

pub placed : (bus_bytes i : ℕ) (outline : Outline) → IsBusWidth bus_bytes → outline.address % 2 ^ outline.size ≡ 0 → i < 2 ^ outline.size → IsPlaced bus_bytes outline i
placed bus_bytes i outline (inl four) aligned below =
    subst (λ b. IsPlaced b outline i) (sym four) (elim (cases_lt outline.size 3) [
      | inl small ↦
          let (first, other, within, half) = in_narrow outline.address outline.size i small aligned below in
          record { inside = rw first (omega arith); word = rw (lt-leb 3 outline.size small) (omega arith); half = λ e. rw (lt-leb 3 outline.size small) (omega arith) }
      | inr big ↦
          let (start, whole, many) = whole_words outline.address outline.size big aligned in
          let (bytes, other) = wide_transfer outline.size big in
          record { inside = rw bytes (omega arith); word = rw (bytes, le-leb 3 outline.size big) (omega arith); half = λ e. rw (bytes, le-leb 3 outline.size big) (omega arith) }
    ])
placed bus_bytes i outline (inr eight) aligned below =
    subst (λ b. IsPlaced b outline i) (sym eight) (elim (cases_lt outline.size 3) [
      | inl small ↦
          let (other, first, within, half) = in_narrow outline.address outline.size i small aligned below in
          record { inside = rw first (omega arith); word = rw first (omega arith); half = λ e. absurd (omega arith) }
      | inr big ↦
          let (start, whole, many) = whole_words outline.address outline.size big aligned in
          let (other, bytes) = wide_transfer outline.size big in
          record { inside = rw bytes (omega arith); word = rw bytes (omega arith); half = λ e. absurd (omega arith) }
    ])

-- no other transfer brings the byte's half of its word
pub same_place : (bus_bytes place i : ℕ) (outline : Outline) → IsBusWidth bus_bytes → outline.address % 2 ^ outline.size ≡ 0 → i < 2 ^ outline.size
    → place < max 1 (2 ^ outline.size / bus_bytes) → word_of_read bus_bytes outline place ≡ (lane_of outline.address + i) / 8
    → (bus_bytes ≡ 4 → half_of_read outline place % 2 ≡ lane_of (outline.address + i) / 4) → i / min (2 ^ outline.size) bus_bytes ≡ place
same_place bus_bytes place i outline (inl four) aligned below inside word half =
    let inside_four : place < max 1 (2 ^ outline.size / 4) = rw four at inside in
    let word_four : half_of_read outline place / 2 ≡ (lane_of outline.address + i) / 8 = rw four at word in
    rw four (elim (cases_lt outline.size 3) [
      | inl small ↦
          let (first, other, within, same) = in_narrow outline.address outline.size i small aligned below in
          omega (arith, narrow outline.address outline.size small)
      | inr big ↦
          let (start, whole, many) = whole_words outline.address outline.size big aligned in
          let (bytes, other) = wide_transfer outline.size big in
          let word_is : place / 2 ≡ (lane_of outline.address + i) / 8 = rw (le-leb 3 outline.size big) at word_four in
          let half_is : place % 2 ≡ lane_of (outline.address + i) / 4 = rw (le-leb 3 outline.size big) at (half four) in
          rw bytes (omega arith)
    ])
same_place bus_bytes place i outline (inr eight) aligned below inside word half =
    let inside_eight : place < max 1 (2 ^ outline.size / 8) = rw eight at inside in
    let word_eight : place ≡ (lane_of outline.address + i) / 8 = rw eight at word in
    rw eight (elim (cases_lt outline.size 3) [
      | inl small ↦
          let (other, first, within, same) = in_narrow outline.address outline.size i small aligned below in
          omega (arith, narrow outline.address outline.size small)
      | inr big ↦
          let (start, whole, many) = whole_words outline.address outline.size big aligned in
          let (other, bytes) = wide_transfer outline.size big in
          rw bytes (omega arith)
    ])

first_of_one : (place size bus_bytes : ℕ) → place ≡ 0 → (place * min (2 ^ size) bus_bytes < 2 ^ size) × (place * min (2 ^ size) bus_bytes / min (2 ^ size) bus_bytes ≡ place)
first_of_one place size bus_bytes first = let nothing : 0 * min (2 ^ size) bus_bytes ≡ 0 = omega arith in rw (first, nothing) (pow_pos size, zero-div (min (2 ^ size) bus_bytes))

-- the first byte of a transfer
pub first_byte : (bus_bytes place : ℕ) (outline : Outline) → IsBusWidth bus_bytes → place < max 1 (2 ^ outline.size / bus_bytes)
    → (place * min (2 ^ outline.size) bus_bytes < 2 ^ outline.size) × (place * min (2 ^ outline.size) bus_bytes / min (2 ^ outline.size) bus_bytes ≡ place)
first_byte bus_bytes place outline (inl four) inside =
    let within : place < max 1 (2 ^ outline.size / 4) = rw four at inside in
    rw four (elim (cases_lt outline.size 3) [
      | inl small ↦ first_of_one place outline.size 4 (omega (arith, narrow 0 outline.size small))
      | inr big ↦ let (bytes, other) = wide_transfer outline.size big in let (whole, many) = eighths outline.size big in rw bytes (omega arith, omega arith)
    ])
first_byte bus_bytes place outline (inr eight) inside =
    let within : place < max 1 (2 ^ outline.size / 8) = rw eight at inside in
    rw eight (elim (cases_lt outline.size 3) [
      | inl small ↦ first_of_one place outline.size 8 (omega (arith, narrow 0 outline.size small))
      | inr big ↦ let (other, bytes) = wide_transfer outline.size big in let (whole, many) = eighths outline.size big in rw bytes (omega arith, omega arith)
    ])

-- ---- the lanes of a word after a read

halves : (lower upper lane : ℕ) → lane < 4 → (lane_byte (of_halves lower upper) lane ≡ lane_byte lower lane) × (lane_byte (of_halves lower upper) (4 + lane) ≡ lane_byte upper lane)
halves lower upper zero below = (omega arith, omega arith)
halves lower upper (suc zero) below = (omega arith, omega arith)
halves lower upper (suc (suc zero)) below = (omega arith, omega arith)
halves lower upper (suc (suc (suc zero))) below = (omega arith, omega arith)
halves lower upper (suc (suc (suc (suc lane)))) below = absurd (omega arith)

-- the upper half of a word, by the lane
high_half_at : (lower upper lane : ℕ) → 4 ≤ lane → lane < 8 → lane_byte (of_halves lower upper) lane ≡ lane_byte upper (lane - 4)
high_half_at lower upper lane high below = let parts : 4 + (lane - 4) ≡ lane = omega arith in rw parts at (halves lower upper (lane - 4) (omega arith)).1

-- a lane in the half that is replaced has the payload's byte
replaced : (half payload word lane : ℕ) → lane < 8 → half ≡ lane / 4 → lane_byte (with_half (half == 0) payload word) lane ≡ lane_byte payload (lane % 4)
replaced half payload word lane below is =
    elim (cases_lt lane 4) [
      | inl low ↦
          let zero_is : half ≡ 0 = omega arith in
          let lane_is : lane % 4 ≡ lane = omega arith in
          rw (zero_is, lane_is) (halves payload (word / 2 ^ 32) lane low).0
      | inr high ↦
          let one_is : half ≡ 1 = omega arith in
          let lane_is : lane % 4 ≡ lane - 4 = omega arith in
          rw (one_is, lane_is) (high_half_at word payload lane high below)
    ]

-- a lane in the other half keeps its byte
kept : (half payload word lane : ℕ) → lane < 8 → half < 2 → half ≢ lane / 4 → lane_byte (with_half (half == 0) payload word) lane ≡ lane_byte word lane
kept half payload word lane below two isnt =
    elim (cases_lt lane 4) [
      | inl low ↦
          let zero_is : lane / 4 ≡ 0 = omega arith in
          let one_is : half ≡ 1 = grind (arith, isnt, zero_is) in
          rw one_is (halves word payload lane low).0
      | inr high ↦
          let one_is : lane / 4 ≡ 1 = omega arith in
          let zero_is : half ≡ 0 = grind (arith, isnt, one_is) in
          let lane_is : 4 + (lane - 4) ≡ lane = omega arith in
          rw zero_is (high_half_at payload (word / 2 ^ 32) lane high below ∙ lane_byte-down word 4 (lane - 4) ∙ ap (lane_byte word) lane_is)
    ]

-- the byte's transfer puts it in its lane of the word, from its lane of the bus
pub own_lane : (bus_bytes i x payload word : ℕ) (outline : Outline) → IsBusWidth bus_bytes → outline.address % 2 ^ outline.size ≡ 0 → i < 2 ^ outline.size
    → lane_of x ≡ lane_of (outline.address + i)
    → lane_byte (with_payload bus_bytes outline (i / min (2 ^ outline.size) bus_bytes) payload word) (lane_of (outline.address + i)) ≡ lane_byte payload (x % bus_bytes)
own_lane bus_bytes i x payload word outline width aligned below same = by_width width
  where
    is_placed : IsPlaced bus_bytes outline i
    is_placed = placed bus_bytes i outline width aligned below

    by_width : IsBusWidth bus_bytes
        → lane_byte (with_payload bus_bytes outline (i / min (2 ^ outline.size) bus_bytes) payload word) (lane_of (outline.address + i)) ≡ lane_byte payload (x % bus_bytes)
    by_width (inl four) =
        let half : half_of_read outline (i / min (2 ^ outline.size) 4) % 2 ≡ lane_of (outline.address + i) / 4 = rw four at (is_placed.half four) in
        let lane_is : lane_of (outline.address + i) % 4 ≡ x % 4 = omega arith in
        rw four
        (replaced (half_of_read outline (i / min (2 ^ outline.size) 4) % 2) payload word (lane_of (outline.address + i)) (omega arith) half ∙ ap (lane_byte payload) lane_is)
    by_width (inr eight) = rw eight (ap (lane_byte payload) (sym same))

-- a transfer that brings the byte's word is the byte's, or leaves the byte as it is
pub own_or_kept : (bus_bytes place i : ℕ) (outline : Outline) → IsBusWidth bus_bytes → outline.address % 2 ^ outline.size ≡ 0 → i < 2 ^ outline.size
    → place < max 1 (2 ^ outline.size / bus_bytes) → word_of_read bus_bytes outline place ≡ (lane_of outline.address + i) / 8
    → (i / min (2 ^ outline.size) bus_bytes ≡ place)
    ⊎ ((payload word : ℕ) → lane_byte (with_payload bus_bytes outline place payload word) (lane_of (outline.address + i)) ≡ lane_byte word (lane_of (outline.address + i)))
own_or_kept bus_bytes place i outline (inr eight) aligned below inside word = inl (same_place bus_bytes place i outline (inr eight) aligned below inside word (λ four. absurd (omega arith)))
own_or_kept bus_bytes place i outline (inl four) aligned below inside word =
    elim (eqb_tells (half_of_read outline place % 2) (lane_of (outline.address + i) / 4)) [
      | inl (test, same) ↦ inl (same_place bus_bytes place i outline (inl four) aligned below inside word (λ e. same))
      | inr (test, other) ↦
          inr (λ payload old. rw four (kept (half_of_read outline place % 2) payload old (lane_of (outline.address + i)) (omega arith) (omega arith) other))
    ]
