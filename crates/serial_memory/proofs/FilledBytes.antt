-- Bytes put one after another from an address on.
use Rattle.std.proofs.Common.{◌≡◌, ℕ, zero, suc, ◌+◌, ◌-◌, ◌%◌, ◌/◌, ◌^◌, ◌<◌, ◌==◌, Bool, true, false, not, ◌&&◌, ◌||◌, List, nat_lt, if◌then◌else◌, refl, sym, ◌∙◌, ap, arith, inl, inr}
use Rattle.std.specs.Prelude.{slice_index}
use Rattle.std.specs.List.{list_all, list_any, range_with_len}
use Rattle.std.proofs.Math.Path.{fun_ext}
use Rattle.std.proofs.lemmas.Bool.{and_parts, cases_lt, eq-eqb, eqb-true}
use Rattle.std.proofs.lemmas.Bool.Decides.{nat_tests}
use Rattle.bus_words.specs.Lanes.{has_lane, lane_byte}
use Rattle.tl_messages.specs.Lanes.{in_lanes}
use Rattle.data_unit.specs.Words.{full_mask, placed_at}
use Rattle.data_unit.proofs.AlignedLanes.{in_lanes-aligned}
use Rattle.data_unit.proofs.FullMask.{has_lane-full_mask}
use Rattle.data_unit.proofs.WordLaws.{lane_byte-placed_at}
use Rattle.subordinate.specs.Faults.{Faults, is_good, standing_at}
use Rattle.sparse_memory.specs.SparseMemory.{SparseState, has_room, is_strobed, put_flags, put_word}
use Rattle.sparse_memory.proofs.PageLaws.{has_lane-none}
use Rattle.meaning.specs.Meaning.{Bytes}
use Rattle.serial_memory.specs.InsideSerial.{IsReservedAlone, IsWithinWord, filled_until}
use Rattle.serial_memory.specs.SerialMemory.{can_fill, is_filled, is_good_byte, known_from, some_lacks_room}
use Rattle.serial_memory.proofs.Words.{in_word, out_of_word}

-- what holds of all numbers below another holds of each
each-of : (p : ℕ → Bool) (from count k : ℕ) → list_all p (range_with_len from count) ≡ true → k < count → p (from + k) ≡ true
each-of p from zero k all below = absurd (omega (arith, below))
each-of p from (suc count) k all below = by_first k below (and_parts (p from) (list_all p (range_with_len (from + 1) count)) all) (λ j less rest. each-of p (from + 1) count j rest less)
  where
    by_first : (k : ℕ) → k < suc count → (p from ≡ true) × (list_all p (range_with_len (from + 1) count) ≡ true)
        → ((j : ℕ) → j < count → list_all p (range_with_len (from + 1) count) ≡ true → p (from + 1 + j) ≡ true) → p (from + k) ≡ true
    by_first zero below both others = let here : from + 0 ≡ from = omega arith in ap p here ∙ both.0
    by_first (suc j) below both others =
        let next : from + suc j ≡ from + 1 + j = omega arith in
        ap p next ∙ others j (omega (arith, below)) both.1

-- each of the bytes is good
pub good-byte : (faults : Faults) (address count k : ℕ) → can_fill faults address count ≡ true → k < count → (address + k < 2 ^ 32) × (is_good (standing_at faults (address + k)) ≡ true)
good-byte faults address count k can below =
    let from_zero : k ≡ 0 + k = omega arith in
    let both = and_parts (nat_lt (address + k) (2 ^ 32)) (is_good (standing_at faults (address + k))) (ap (λ i. is_good_byte faults (address + i)) from_zero ∙ each-of (λ i. is_good_byte faults (address + i)) 0 count k can below) in
    (grind (arith, nat_tests, both.0), both.1)

-- one byte more
pub filled-more : (m : Bytes) (address : ℕ) (bytes : List ℕ) (k : ℕ) → (λ x. if x == address + k then slice_index bytes k else filled_until m address bytes k x) ≡ filled_until m address bytes (k + 1)
filled-more m address bytes k = fun_ext (λ x. at x)
  where
    by_place : (x : ℕ) (b : Bool) → (x == address + k) ≡ b → (if b then slice_index bytes k else filled_until m address bytes k x) ≡ filled_until m address bytes (k + 1) x
    by_place x true is =
        let same : k ≡ x - address = omega (arith, eqb-true x (address + k) is) in
        let inside : is_filled address (k + 1) x ≡ true = grind (arith, nat_tests, eqb-true x (address + k) is) in
        rw inside (ap (slice_index bytes) same)
    by_place x false away = grind (arith, nat_tests, away)

    at : (x : ℕ) → (if x == address + k then slice_index bytes k else filled_until m address bytes k x) ≡ filled_until m address bytes (k + 1) x
    at x = by_place x (x == address + k) refl

pub known-more : (doubts : ℕ → Bool) (address k : ℕ) → (λ x. not (x == address + k) && known_from doubts address k x) ≡ known_from doubts address (k + 1)
known-more doubts address k = fun_ext (λ x. at x)
  where
    at : (x : ℕ) → (not (x == address + k) && known_from doubts address k x) ≡ known_from doubts address (k + 1) x
    at x = grind (arith, nat_tests)

-- none yet
pub filled-none : (m : Bytes) (address : ℕ) (bytes : List ℕ) → m ≡ filled_until m address bytes 0
filled-none m address bytes = fun_ext (λ x. at x)
  where
    at : (x : ℕ) → m x ≡ filled_until m address bytes 0 x
    at x = grind (arith, nat_tests)

pub known-none : (doubts : ℕ → Bool) (address : ℕ) → doubts ≡ known_from doubts address 0
known-none doubts address = fun_ext (λ x. at x)
  where
    at : (x : ℕ) → doubts x ≡ known_from doubts address 0 x
    at x = grind (arith, nat_tests)

-- ---- one byte

-- the one byte that is put is that of its address
strobed-byte : (address x : ℕ) → is_strobed address (full_mask address 0) x ≡ (x == address)
strobed-byte address x = by_place (x == address) refl
  where
    within : IsWithinWord address 0 (full_mask address 0)
    within lane below has = sym (has_lane-full_mask address 0 lane below) ∙ has

    by_place : (b : Bool) → (x == address) ≡ b → is_strobed address (full_mask address 0) x ≡ b
    by_place true is =
        let same = eqb-true x address is in
        in_word address 0 (full_mask address 0) x (omega arith) (omega arith) (omega (arith, same)) (omega (arith, same))
        ∙ has_lane-full_mask address 0 (x % 8) (omega arith)
        ∙ in_lanes-aligned address 0 (x % 8) (omega arith) (omega arith)
        ∙ grind (arith, nat_tests, same)
    by_place false away = out_of_word address 0 (full_mask address 0) x (omega arith) (omega arith) within (λ low high. grind (arith, nat_tests, away, low, high))

placed-byte : (address byte : ℕ) → byte < 256 → lane_byte (placed_at byte address 0) (address % 8) ≡ byte
placed-byte address byte fits =
    let own : in_lanes address 0 (address % 8) ≡ true = in_lanes-aligned address 0 (address % 8) (omega arith) (omega arith) ∙ grind (arith, nat_tests) in
    let first : address % 8 - address % 8 ≡ 0 = omega arith in
    let small : byte % 256 ≡ byte = omega (arith, fits) in
    lane_byte-placed_at byte address 0 (address % 8) (omega arith) ∙ rw (own, first) small

pub byte-put : (m : Bytes) (address byte : ℕ) → byte < 256 → put_word address (placed_at byte address 0) (full_mask address 0) m ≡ (λ x. if x == address then byte else m x)
byte-put m address byte fits = fun_ext (λ x. at x)
  where
    by_place : (x : ℕ) (b : Bool) → (x == address) ≡ b → (if b then lane_byte (placed_at byte address 0) (x % 8) else m x) ≡ (if b then byte else m x)
    by_place x true is = ap (λ y. lane_byte (placed_at byte address 0) (y % 8)) (eqb-true x address is) ∙ placed-byte address byte fits
    by_place x false away = refl

    at : (x : ℕ) → put_word address (placed_at byte address 0) (full_mask address 0) m x ≡ (if x == address then byte else m x)
    at x = ap (λ b. if b then lane_byte (placed_at byte address 0) (x % 8) else m x) (strobed-byte address x) ∙ by_place x (x == address) refl

pub byte-known : (doubts : ℕ → Bool) (address : ℕ) → put_flags address 0 (full_mask address 0) doubts ≡ (λ x. not (x == address) && doubts x)
byte-known doubts address = fun_ext (λ x. at x)
  where
    by_place : (x : ℕ) (b : Bool) → (if b then has_lane 0 (x % 8) else doubts x) ≡ (not b && doubts x)
    by_place x true = has_lane-none (x % 8) (omega arith)
    by_place x false = refl

    at : (x : ℕ) → put_flags address 0 (full_mask address 0) doubts x ≡ (not (x == address) && doubts x)
    at x = ap (λ b. if b then has_lane 0 (x % 8) else doubts x) (strobed-byte address x) ∙ by_place x (x == address)

-- ---- room

or-true : (b : Bool) → (b || true) ≡ true
or-true true = refl
or-true false = refl

-- the page of one byte more has room
pub room-more : (old new : SparseState) (address k number : ℕ) → number ≡ (address + k) / 4096 → ((page : ℕ) → has_room new page ≡ (has_room old page || page == number))
    → ((j : ℕ) → j < k → has_room old ((address + j) / 4096) ≡ true) → (j : ℕ) → j < k + 1 → has_room new ((address + j) / 4096) ≡ true
room-more old new address k number is each before j below =
    each ((address + j) / 4096)
    ∙ elim (cases_lt j k) [
      | inl less ↦ ap (λ b. b || (address + j) / 4096 == number) (before j less)
      | inr last ↦
          let same : j ≡ k = omega (arith, below, last) in
          ap (λ b. has_room old ((address + j) / 4096) || b) (eq-eqb ((address + j) / 4096) number (ap (λ i. (address + i) / 4096) same ∙ sym is)) ∙ or-true (has_room old ((address + j) / 4096))
    ]

pub reserved_none : (state : SparseState) → IsReservedAlone state state
reserved_none state = record { faults = refl; bytes = refl; doubts = refl; rooms = λ page there. there }

pub reserved_then : {old between new : SparseState} → IsReservedAlone old between → IsReservedAlone between new → IsReservedAlone old new
reserved_then first next = record { faults = next.faults ∙ first.faults; bytes = next.bytes ∙ first.bytes; doubts = next.doubts ∙ first.doubts; rooms = λ page there. next.rooms page (first.rooms page there) }

-- where one of some numbers passes, some do
some-of : (p : ℕ → Bool) (from count k : ℕ) → k < count → p (from + k) ≡ true → list_any p (range_with_len from count) ≡ true
some-of p from zero k below passes = absurd (omega (arith, below))
some-of p from (suc count) zero below passes =
    let here : from ≡ from + 0 = omega arith in
    ap (λ b. b || list_any p (range_with_len (from + 1) count)) (ap p here ∙ passes)
some-of p from (suc count) (suc j) below passes =
    let next : from + 1 + j ≡ from + suc j = omega arith in
    ap (λ b. p from || b) (some-of p (from + 1) count j (omega (arith, below)) (ap p next ∙ passes)) ∙ or-true (p from)

-- a page without room had none before
without-room : {old new : SparseState} → IsReservedAlone old new → (page : ℕ) → has_room new page ≡ false → has_room old page ≡ false
without-room {old} {new} alone page lacks = by_room (has_room old page) refl
  where
    by_room : (b : Bool) → has_room old page ≡ b → b ≡ false
    by_room true there = sym (alone.rooms page there) ∙ lacks
    by_room false absent = refl

-- the page of one of so many bytes has no room, so it had none before
pub refused-one : {old new : SparseState} (address count k number : ℕ) → IsReservedAlone old new → number ≡ (address + k) / 4096 → k < count → has_room new number ≡ false
    → some_lacks_room (has_room old) address count ≡ true
refused-one {old} {new} address count k number alone is below lacks =
    let from_zero : 0 + k ≡ k = omega arith in
    some-of (λ j. not (has_room old ((address + j) / 4096))) 0 count k below
    (ap (λ j. not (has_room old ((address + j) / 4096))) from_zero ∙ ap not (without-room alone ((address + k) / 4096) (ap (has_room new) (sym is) ∙ lacks)))
