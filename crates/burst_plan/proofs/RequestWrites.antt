-- The W beats of a request's write are those of the words that its beats bring.
use Rattle.std.proofs.Common.{◌≡◌, ℕ, ◌+◌, ◌-◌, ◌*◌, ◌/◌, ◌%◌, ◌^◌, ◌<◌, ◌≤◌, nat_le, true, map, length, Option, Some, None, is_some, if◌then◌else◌, refl, sym, ◌∙◌, ap, arith, inl, inr}
use Rattle.std.specs.Prelude.{unwrap_or, option_map}
use Rattle.std.specs.List.{slice_get}
use Rattle.std.proofs.Math.Nat.{div-div-eq-div-mul}
use Rattle.std.proofs.lemmas.Bool.{and_from, and_parts, cases_Bool, le-leb, leb-true}
use Rattle.std.proofs.lemmas.List.FromFn.{length-map-range_with_len, get_or-map-range_with_len}
use Rattle.std.proofs.lemmas.Nat.{div-mul-add}
use Rattle.std.proofs.lemmas.Option.{slice_get-get_or, slice_get-map}
use Rattle.bus_words.specs.Lanes.{given_at}
use Rattle.bus_words.proofs.LaneLaws.{word_of_lanes-same}
use Rattle.bus_words.proofs.MaskLaws.{mask_of-same}
use Rattle.tl_messages.specs.Lanes.{in_lanes, lane_of}
use Rattle.tl_messages.specs.Operations.{has_data}
use Rattle.tl_messages.specs.Requests.{HeldMessage, byte_given, bytes_given}
use Rattle.tl_messages.specs.declared.MaskedWord.{MaskedWord}
use Rattle.axi_beats.specs.Transfers.{covers_lane, lane_address, transfer_address, transfer_end, transfer_has}
use Rattle.axi_beats.proofs.TransferLaws.{lane_address_within}
use Rattle.data_unit.specs.Words.{bytes_of, full_mask, placed_at}
use Rattle.data_unit.proofs.AlignedLanes.{aligned_within, in_lanes-aligned}
use Rattle.data_unit.proofs.FullMask.{has_lane-full_mask}
use Rattle.data_unit.proofs.NumberLaws.{get_or-bytes_of, length-bytes_of}
use Rattle.data_unit.proofs.WordLaws.{lane_byte-placed_at}
use Rattle.std.specs.Int.{byte_at}
use Rattle.burst_plan.specs.Pieces.{PlannedRange, IsPlannable, beat_size, pieces}
use Rattle.burst_plan.specs.PlannedBursts.{byte_to_write, given_by_word, w_beat}
use Rattle.burst_plan.specs.PlannedTransfers.{beat_bytes, burst_beats, burst_bytes}
use Rattle.burst_plan.specs.declared.Piece.{Piece}
use Rattle.burst_plan.proofs.PieceLaws.{DividesEvenly, divides_evenly, piece_at, piece_listed, pow-split}
use Rattle.burst_plan.proofs.TransferPlaces.{holds_each_byte_once, transfer_start-at, transfer_end-at}

-- a W beat is known from the bytes that are given in its transfer
pub w_beat-same : (bus_bytes : ℕ) (f g : ℕ → Option ℕ) (piece : Piece) (n : ℕ) → 1 ≤ n → ((x : ℕ) → transfer_has piece.address piece.size n x ≡ true → f x ≡ g x)
    → w_beat bus_bytes f piece n ≡ w_beat bus_bytes g piece n
w_beat-same bus_bytes f g piece n one same =
    let lane_same : (lane : ℕ) → byte_to_write bus_bytes f piece n lane ≡ byte_to_write bus_bytes g piece n lane = λ lane.
    elim (cases_Bool (covers_lane bus_bytes piece.address piece.size n lane)) [
      | inl covered ↦
          let within = lane_address_within bus_bytes piece.address piece.size n lane one covered in
          rw covered (same (lane_address bus_bytes piece.address piece.size n lane) (and_from _ _ (le-leb _ _ within.0) (le-leb _ _ within.1)))
      | inr free ↦ rw free refl
    ] in
    let payloads : (w_beat bus_bytes f piece n).payload ≡ (w_beat bus_bytes g piece n).payload =
    word_of_lanes-same (λ lane. unwrap_or (byte_to_write bus_bytes f piece n lane) 0) (λ lane. unwrap_or (byte_to_write bus_bytes g piece n lane) 0)
    (λ lane below. ap (λ (o : Option ℕ). unwrap_or o 0) (lane_same lane)) in
    let strobes : (w_beat bus_bytes f piece n).strobes ≡ (w_beat bus_bytes g piece n).strobes =
    mask_of-same (λ lane. is_some (byte_to_write bus_bytes f piece n lane)) (λ lane. is_some (byte_to_write bus_bytes g piece n lane)) (λ lane below. ap (λ (o : Option ℕ). is_some o) (lane_same lane)) in
    rw (payloads, strobes) refl

-- the byte at an address that a message gives, where its bytes begin at another address of the same lane
pub given_at-bytes_given : (held : HeldMessage) (start x : ℕ) (word : MaskedWord) → has_data held.operation ≡ true → held.address % 8 ≡ start % 8 → start ≤ x → x < start + 2 ^ held.size
    → slice_get held.beats ((x - start) / 8) ≡ Some word → given_at (bytes_given held) start x ≡ given_by_word word x
given_at-bytes_given held start x word carries aligned low high there =
    let byte : ℕ → Option ℕ = λ i. if has_data held.operation then byte_given held.address held.beats i else None in
    let inside : x - start < 2 ^ held.size = omega arith in
    let listed : slice_get (bytes_given held) (x - start) ≡ Some (byte (x - start)) =
    slice_get-get_or (bytes_given held) (x - start) None (rw (length-map-range_with_len byte 0 (2 ^ held.size)) inside)
    ∙ ap (λ (o : Option ℕ). Some o) (get_or-map-range_with_len byte 0 (2 ^ held.size) (x - start) (x - start) None inside (omega arith)) in
    let lane : lane_of (held.address + (x - start)) ≡ lane_of x = omega arith in
    rw (le-leb start x low, listed, carries, there, lane) refl

-- ---- the word that holds a transfer

beat_size-le : (range : PlannedRange) → beat_size range ≤ 3
beat_size-le range = grind arith

-- all bytes of a transfer are in one word of eight bytes, counted from the range's start
same_word : (range : PlannedRange) → DividesEvenly range → (k n x : ℕ) → 1 ≤ n → transfer_has (piece_at range k).address (beat_size range) n x ≡ true
    → (x - range.address) / 8 ≡ (transfer_address (piece_at range k).address (beat_size range) n - range.address) / 8
same_word range even k n x one has =
    let T = beat_bytes range in
    let c = 2 ^ (3 - beat_size range) in
    let word : 8 ≡ T * c = omega (arith, pow-split 3 (beat_size range) (beat_size-le range)) in
    let start = transfer_start-at range even k n one in
    let end = transfer_end-at range even k n one in
    let both = and_parts (nat_le (transfer_address (piece_at range k).address (beat_size range) n) x) (nat_le x (transfer_end (piece_at range k).address (beat_size range) n)) has in
    let low = leb-true _ _ both.0 in
    let high = leb-true _ _ both.1 in
    let some = even.beat in
    let number = k * burst_beats range + (n - 1) in
    let rows : k * burst_bytes range + (n - 1) * T ≡ number * T = ap (λ z. k * z + (n - 1) * T) even.beats ∙ omega arith in
    let first : transfer_address (piece_at range k).address (beat_size range) n - range.address ≡ number * T + 0 = omega arith in
    let here : x - range.address ≡ number * T + (x - range.address - number * T) = omega arith in
    let first_beat : (transfer_address (piece_at range k).address (beat_size range) n - range.address) / T ≡ number = ap (λ z. z / T) first ∙ div-mul-add number T 0 some in
    let beat : (x - range.address) / T ≡ number = ap (λ z. z / T) here ∙ div-mul-add number T (x - range.address - number * T) (omega arith) in
    ap (λ z. (x - range.address) / z) word ∙ sym (div-div-eq-div-mul (x - range.address) T c) ∙ ap (λ z. z / c) (beat ∙ sym first_beat)
    ∙ div-div-eq-div-mul (transfer_address (piece_at range k).address (beat_size range) n - range.address) T c ∙ ap (λ z. (transfer_address (piece_at range k).address (beat_size range) n - range.address) / z) (sym word)

-- the W beat of a request's transfer is that of the word that holds the transfer
pub w_beat_of_request : (range : PlannedRange) (held : HeldMessage) (k n : ℕ) (piece : Piece) (word : MaskedWord) → IsPlannable range → has_data held.operation ≡ true → held.size ≡ range.size
    → held.address % 8 ≡ range.address % 8 → slice_get (pieces range) k ≡ Some piece → 1 ≤ n → n ≤ piece.len + 1
    → slice_get held.beats ((transfer_address piece.address piece.size n - range.address) / 8) ≡ Some word
    → w_beat range.bus_bytes (given_at (bytes_given held) range.address) piece n ≡ w_beat range.bus_bytes (given_by_word word) piece n
w_beat_of_request range held k n piece word plannable carries sizes aligned listed one last there =
    w_beat-same range.bus_bytes (given_at (bytes_given held) range.address) (given_by_word word) piece n one
    (λ x has.
    let even = divides_evenly range plannable in
    let is = (piece_listed range even k piece listed).1 in
    let place = ((holds_each_byte_once range plannable).back k n x piece listed one last has).0 in
    let has_at : transfer_has (piece_at range k).address (beat_size range) n x ≡ true = ap (λ (p : Piece). transfer_has p.address p.size n x) (sym is) ∙ has in
    let same = same_word range even k n x one has_at in
    let start_is : transfer_address piece.address piece.size n ≡ transfer_address (piece_at range k).address (beat_size range) n = ap (λ (p : Piece). transfer_address p.address p.size n) is in
    let found : slice_get held.beats ((x - range.address) / 8) ≡ Some word = rw (same, ← start_is) there in
    let end : 2 ^ held.size ≡ 2 ^ range.size = ap (λ s. 2 ^ s) sizes in
    given_at-bytes_given held range.address x word carries aligned place.first (omega (arith, place.last)) found)

-- ---- the result of an atomic

-- the byte at an address that a number gives whose bytes begin at `start`, where the number stands in the lanes of an aligned address, its own
pub given_at-bytes_of : (number own size start x : ℕ) → size ≤ 3 → own % 2 ^ size ≡ 0 → own % 8 ≡ start % 8 → start ≤ x → x < start + 2 ^ size
    → given_at (map Some (bytes_of (2 ^ size) number)) start x ≡ given_by_word (record { word = placed_at number own size; mask = full_mask own size }) x
given_at-bytes_of number own size start x small aligned lanes low high =
    let within = aligned_within own size small aligned in
    let lane : lane_of x ≡ lane_of own + (x - start) = omega arith in
    let below : lane_of own + (x - start) < 8 = omega arith in
    let inside : x - start < length (bytes_of (2 ^ size) number) = rw (length-bytes_of (2 ^ size) number) (omega arith) in
    let listed : slice_get (map Some (bytes_of (2 ^ size) number)) (x - start) ≡ Some (Some (byte_at (x - start) number)) =
    slice_get-map (λ (b : ℕ). Some b) (bytes_of (2 ^ size) number) (x - start)
    ∙ ap (λ (o : Option ℕ). option_map (λ (b : ℕ). Some b) o) (slice_get-get_or (bytes_of (2 ^ size) number) (x - start) 0 inside ∙ ap (λ (b : ℕ). Some b) (get_or-bytes_of (2 ^ size) number (x - start) (omega arith))) in
    let first : lane_of own ≤ lane_of own + (x - start) = omega arith in
    let last : lane_of own + (x - start) ≤ lane_of own + 2 ^ size - 1 = omega arith in
    let held : in_lanes own size (lane_of own + (x - start)) ≡ true = in_lanes-aligned own size (lane_of own + (x - start)) below aligned ∙ and_from _ _ (le-leb _ _ first) (le-leb _ _ last) in
    let place : lane_of own + (x - start) - lane_of own ≡ x - start = omega arith in
    rw (le-leb start x low, listed, lane, has_lane-full_mask own size (lane_of own + (x - start)) below, lane_byte-placed_at number own size (lane_of own + (x - start)) below, held, place) refl

-- the W beat of an atomic's transfer is that of the word that has its result in the lanes of its address
pub w_beat_of_atomic : (range : PlannedRange) (number own k n : ℕ) (piece : Piece) → IsPlannable range → range.size ≤ 3 → own % 2 ^ range.size ≡ 0 → own % 8 ≡ range.address % 8
    → slice_get (pieces range) k ≡ Some piece → 1 ≤ n → n ≤ piece.len + 1
    → w_beat range.bus_bytes (given_at (map Some (bytes_of (2 ^ range.size) number)) range.address) piece n
    ≡ w_beat range.bus_bytes (given_by_word (record { word = placed_at number own range.size; mask = full_mask own range.size })) piece n
w_beat_of_atomic range number own k n piece plannable small aligned lanes listed one last =
    w_beat-same range.bus_bytes (given_at (map Some (bytes_of (2 ^ range.size) number)) range.address) (given_by_word (record { word = placed_at number own range.size; mask = full_mask own range.size })) piece n one
    (λ x has.
    let place = ((holds_each_byte_once range plannable).back k n x piece listed one last has).0 in
    given_at-bytes_of number own range.size range.address x small aligned lanes place.first place.last)
