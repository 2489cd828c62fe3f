-- The lanes of 2^size bytes from an address on: what they are depends on the address's lane alone, they are all lanes from size 3 on, and those of
-- an aligned address stand side by side.
use Rattle.std.proofs.Common.{◌≡◌, ℕ, zero, suc, ◌+◌, ◌-◌, ◌*◌, ◌/◌, ◌%◌, ◌^◌, ◌<◌, ◌≤◌, ◌==◌, nat_le, nat_lt, true, ◌&&◌, refl, sym, ◌∙◌, arith, inl, inr}
use Rattle.std.proofs.Math.Pow.{mod-mod-pow, pow_mono, pow_pos}
use Rattle.std.proofs.lemmas.Bool.Decides.{nat_tests}
use Rattle.std.proofs.lemmas.Bool.{cases_lt}
use Rattle.std.specs.List.{range_with_len, list_any}
use Rattle.bus_words.specs.Lanes.{is_between}
use Rattle.bus_words.proofs.Ranges.{one_passes}
use Rattle.tl_messages.specs.Lanes.{in_lanes, lane_of}

-- how far above an address a lane first comes
distance : ℕ → ℕ → ℕ
distance address lane = (lane + 8 - address % 8) % 8

-- eight bytes or more have a byte in every lane
pub in_lanes_every : (address size lane : ℕ) → 3 ≤ size → lane < 8 → in_lanes address size lane ≡ true
unfolding distance
in_lanes_every address size lane big below =
    one_passes (λ x. lane_of x == lane) address (2 ^ size) (distance address lane) (omega (arith, pow_mono {i = 3} {j = size} big)) (grind arith)

-- addresses of one lane have the same lanes
lanes_of_range : (a b n lane : ℕ) → a % 8 ≡ b % 8 → list_any (λ x. lane_of x == lane) (range_with_len a n) ≡ list_any (λ x. lane_of x == lane) (range_with_len b n)
lanes_of_range a b zero lane same = refl
lanes_of_range a b (suc n) lane same =
    let next : (a + 1) % 8 ≡ (b + 1) % 8 = omega arith in
    rw (same, lanes_of_range (a + 1) (b + 1) n lane next) refl

pub in_lanes-lane_of : (address size lane : ℕ) → in_lanes address size lane ≡ in_lanes (lane_of address) size lane
in_lanes-lane_of address size lane = lanes_of_range address (lane_of address) (2 ^ size) lane (omega arith)

-- a range that stays within the word has the lanes from its first to its last
lanes_side_by_side : (word first n lane : ℕ) → first + n ≤ 8 → list_any (λ x. lane_of x == lane) (range_with_len (word * 8 + first) n) ≡ (nat_le first lane && nat_lt lane (first + n))
lanes_side_by_side word first zero lane within = grind (arith, nat_tests)
lanes_side_by_side word first (suc n) lane within =
    let next : word * 8 + first + 1 ≡ word * 8 + (first + 1) = omega arith in
    let here : (word * 8 + first) % 8 ≡ first = omega arith in
    let rest = lanes_side_by_side word (first + 1) n lane (omega arith) in
    rw (here, next, rest) (grind (arith, nat_tests))

-- an aligned range of at most eight bytes stays within its word
pub aligned_within : (address size : ℕ) → size ≤ 3 → address % 2 ^ size ≡ 0 → lane_of address + 2 ^ size ≤ 8
aligned_within address zero small aligned = omega arith
aligned_within address (suc zero) small aligned = omega arith
aligned_within address (suc (suc zero)) small aligned = omega arith
aligned_within address (suc (suc (suc zero))) small aligned = omega arith
aligned_within address (suc (suc (suc (suc size)))) small aligned = absurd (omega arith)

-- the lanes of an aligned range of at most eight bytes
in_lanes_narrow : (address size lane : ℕ) → size ≤ 3 → address % 2 ^ size ≡ 0 → in_lanes address size lane ≡ is_between (lane_of address) (lane_of address + 2 ^ size - 1) lane
in_lanes_narrow address size lane small aligned =
    let parts : address / 8 * 8 + address % 8 ≡ address = omega arith in
    let some = pow_pos size in
    (rw parts at (lanes_side_by_side (address / 8) (lane_of address) (2 ^ size) lane (aligned_within address size small aligned)))
    ∙ last (lane_of address) (2 ^ size) some
  where
    last : (first n : ℕ) → 0 < n → (nat_le first lane && nat_lt lane (first + n)) ≡ is_between first (first + n - 1) lane
    last first n some = grind (arith, nat_tests)

-- the lanes of an aligned range, of any size
pub in_lanes-aligned : (address size lane : ℕ) → lane < 8 → address % 2 ^ size ≡ 0 → in_lanes address size lane ≡ is_between (lane_of address) (lane_of address + 2 ^ size - 1) lane
in_lanes-aligned address size lane below aligned =
    elim (cases_lt size 3) [
      | inl small ↦ in_lanes_narrow address size lane (omega arith) aligned
      | inr big ↦ in_lanes_every address size lane big below ∙ sym (all (wide big))
    ]
  where
    wide : 3 ≤ size → (lane_of address ≡ 0) × (8 ≤ 2 ^ size)
    wide big =
        let parts : size - 3 + 3 ≡ size = omega arith in
        let eighth : address % 2 ^ size % 8 ≡ address % 8 = rw parts at (mod-mod-pow address (size - 3) 3) in
        (omega arith, pow_mono {i = 3} {j = size} big)

    all : (lane_of address ≡ 0) × (8 ≤ 2 ^ size) → is_between (lane_of address) (lane_of address + 2 ^ size - 1) lane ≡ true
    all (first, many) = grind (arith, nat_tests)
