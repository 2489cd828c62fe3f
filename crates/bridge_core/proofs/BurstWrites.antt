-- A plan's pieces as writes, transfer by transfer.
use Rattle.std.proofs.Common.{◌≡◌, ℕ, ◌+◌, ◌-◌, ◌/◌, ◌^◌, ◌<◌, ◌≤◌, true, List, map, length, Option, Some, refl, ◌∙◌, arith}
use Rattle.std.specs.List.{range_with_len, slice_get}
use Rattle.std.proofs.lemmas.Bool.{and_from, and_parts, le-leb}
use Rattle.std.proofs.lemmas.List.FromFn.{length-map-range_with_len, map-range_with_len_more}
use Rattle.std.proofs.Math.Pow.{pow-add, pow_mono}
use Rattle.bus_words.specs.Lanes.{given_at}
use Rattle.tl_messages.specs.Operations.{beats_of}
use Rattle.tl_messages.proofs.BeatCounts.{beats_of-le}
use Rattle.axi_beats.specs.Boxes.{w_beats_of, with_w_beat}
use Rattle.axi_beats.specs.Bursts.{Burst, WriteBurst}
use Rattle.axi_beats.specs.Transfers.{fits_bus, transfer_address, transfer_end, transfer_has}
use Rattle.axi_beats.specs.declared.WBeat.{WBeat}
use Rattle.axi_beats.proofs.TransferLaws.{transfer_address_le_transfer_end}
use Rattle.burst_plan.specs.Pieces.{PlannedRange, IsPlannable, beat_size, pieces}
use Rattle.burst_plan.specs.PlannedBursts.{w_beat}
use Rattle.burst_plan.specs.PlannedTransfers.{HasAddress}
use Rattle.burst_plan.specs.declared.Piece.{Piece}
use Rattle.burst_plan.proofs.PieceLaws.{divides_evenly, piece_listed}
use Rattle.burst_plan.proofs.TransferPlaces.{holds_each_byte_once}
use Rattle.burst_plan.proofs.WriteLaws.{listed_part}

-- ---- transfers of a listed piece

-- a piece that a plan has, at some place
abbrev pub IsListed : PlannedRange → Piece → Type 0
IsListed range piece = (k : ℕ) × (slice_get (pieces range) k ≡ Some piece)

-- its transfers fit the bus
pub listed_fits : (range : PlannedRange) (piece : Piece) → IsPlannable range → IsListed range piece → fits_bus range.bus_bytes piece.size ≡ true
listed_fits range piece plannable (k, listed) = (and_parts _ _ (and_parts _ _ (and_parts _ _ (listed_part range plannable k piece listed).legal).0).0).0

-- they have at most eight bytes
pub listed_size : (range : PlannedRange) (piece : Piece) → IsPlannable range → IsListed range piece → piece.size ≤ 3
listed_size range piece plannable (k, listed) =
    let is = (piece_listed range (divides_evenly range plannable) k piece listed).1 in
    rw is (small range)
  where
    small : (range : PlannedRange) → beat_size range ≤ 3
    small range = grind arith

-- there are at most 256 of them
pub listed_len : (range : PlannedRange) (piece : Piece) → IsPlannable range → IsListed range piece → piece.len < 256
listed_len range piece plannable (k, listed) =
    let even = divides_evenly range plannable in
    let is = (piece_listed range even k piece listed).1 in
    rw is (omega (arith, even.some_beats, even.few_beats))

-- the first byte of a transfer is one of the range's
pub transfer_within : (range : PlannedRange) (piece : Piece) (n : ℕ) → IsPlannable range → IsListed range piece → 1 ≤ n → n ≤ piece.len + 1 → HasAddress range (transfer_address piece.address piece.size n)
transfer_within range piece n plannable (k, listed) one last =
    let start = transfer_address piece.address piece.size n in
    let order = transfer_address_le_transfer_end piece.address piece.size n one in
    let has : transfer_has piece.address piece.size n start ≡ true = and_from _ _ (le-leb start start (omega arith)) (le-leb start (transfer_end piece.address piece.size n) order) in
    ((holds_each_byte_once range plannable).back k n start piece listed one last has).0

-- a byte of a range is in one of the words of its beats
word_below : (size i : ℕ) → i < 2 ^ size → i / 8 < beats_of size true
word_below size i below = grind (arith, pow_mono {i = size} {j = 3}, pow-add 2 (size - 3) 3)

-- the word that holds the first byte of a transfer, counted from the range's start, is that of a beat
pub word_of_transfer : (range : PlannedRange) (piece : Piece) (k start first address : ℕ) → IsPlannable range → IsListed range piece → k ≤ piece.len → start ≡ first → first ≡ range.address
    → address ≡ transfer_address piece.address piece.size (k + 1) → (start ≤ address) × ((address - start) / 8 < beats_of range.size true) × ((address - start) / 8 < 65536)
word_of_transfer range piece k start first address plannable listed last start_is first_is is =
    let within = transfer_within range piece (k + 1) plannable listed (omega arith) (omega (arith, last)) in
    let inside : (address - start) / 8 < beats_of range.size true = word_below range.size (address - start) (omega (arith, within.first, within.last)) in
    (omega (arith, within.first), inside, omega (arith, inside, beats_of-le range.size true plannable.size))

-- ---- a write of which some W beats stand in the box

abbrev pub begun : ℕ → ℕ → List (Option ℕ) → ℕ → Piece → ℕ → Option Burst
begun bus_bytes id bytes start piece k =
    Some (WriteBurst (record { id = id; address = piece.address; len = piece.len; size = piece.size; burst = 1 }) (map (w_beat bus_bytes (given_at bytes start) piece) (range_with_len 1 k)))

pub begun-room : (burst : Option Burst) (bus_bytes id : ℕ) (bytes : List (Option ℕ)) (start : ℕ) (piece : Piece) (k : ℕ) → burst ≡ begun bus_bytes id bytes start piece k → k < 256 → length (w_beats_of burst) < 256
begun-room burst bus_bytes id bytes start piece k is below = rw (is, length-map-range_with_len (w_beat bus_bytes (given_at bytes start) piece) 1 k) below

pub begun-more : (burst after : Option Burst) (bus_bytes id : ℕ) (bytes : List (Option ℕ)) (start : ℕ) (piece : Piece) (k : ℕ) (beat : WBeat) → burst ≡ begun bus_bytes id bytes start piece k
    → after ≡ with_w_beat beat burst → w_beat bus_bytes (given_at bytes start) piece (k + 1) ≡ beat → after ≡ begun bus_bytes id bytes start piece (k + 1)
begun-more burst after bus_bytes id bytes start piece k beat is pushed same =
    let next : 1 + k ≡ k + 1 = omega arith in
    pushed ∙ rw (is, map-range_with_len_more (w_beat bus_bytes (given_at bytes start) piece) 1 k (k + 1) next, same) refl
