-- What an atomic makes of a payload is, in the lane of each byte, what its request makes of the bytes that it was told.
use Rattle.std.proofs.Common.{◌≡◌, ℕ, zero, suc, ◌+◌, ◌-◌, ◌/◌, ◌%◌, ◌^◌, ◌<◌, ◌≤◌, ◌∷◌, List, map, true, refl, sym, ◌∙◌, ap, ap₂, arith, length}
use Rattle.std.specs.Prelude.{Bool, Option, Some, None, if◌then◌else◌, slice_get, unwrap_or}
use Rattle.std.specs.List.{range_with_len}
use Rattle.std.specs.Int.{byte_at, bytes_low_first}
use Rattle.bus_words.specs.Lanes.{has_lane, lane_byte}
use Rattle.bus_words.proofs.MaskLaws.{has_lane-mask_of}
use Rattle.byte_values.specs.Words.{known_byte}
use Rattle.data_unit.specs.Atomics.{atomic_result, operand_of}
use Rattle.data_unit.specs.Words.{full_mask, merged, operand_in, value}
use Rattle.data_unit.proofs.Operands.{operand_made}
use Rattle.data_unit.proofs.WordLaws.{lane_byte-placed_at}
use Rattle.tl_messages.specs.Lanes.{in_lanes, lane_of}
use Rattle.tl_messages.specs.Operations.{has_data}
use Rattle.tl_messages.specs.Requests.{HeldMessage, beat_at, request_of}
use Rattle.tl_messages.specs.declared.AtomicOp.{AtomicOp}
use Rattle.value_orders.specs.Bytes.{made_of}
use Rattle.value_board.specs.Given.{made_word, step_of}
use Rattle.value_board.proofs.GivenBytes.{lane_of_range}

-- numbers that are the same, one for each of two ranges
shifted : (f g : ℕ → ℕ) (a b n : ℕ) → ((i : ℕ) → i < n → f (a + i) ≡ g (b + i)) → map f (range_with_len a n) ≡ map g (range_with_len b n)
shifted f g a b zero same = refl
shifted f g a b (suc n) same =
    let here : a ≡ a + 0 = omega arith in
    let there : b + 0 ≡ b = omega arith in
    ap₂ (λ (y : ℕ) (ys : List ℕ). y ∷ ys) (ap f here ∙ same 0 (omega arith) ∙ ap g there)
    (shifted f g (a + 1) (b + 1) n
    (λ i below.
    let left : a + 1 + i ≡ a + suc i = omega arith in
    let right : b + suc i ≡ b + 1 + i = omega arith in
    ap f left ∙ same (suc i) (omega (arith, below)) ∙ ap g right))

-- the bytes of a number, by their places
low_first : (i k n j : ℕ) → j < k → slice_get (bytes_low_first i k n) j ≡ Some (byte_at (i + j) n)
low_first i zero n j below = absurd (omega (arith, below))
low_first i (suc k) n zero below =
    let same : i ≡ i + 0 = omega arith in
    ap (λ p. Some (byte_at p n)) same
low_first i (suc k) n (suc j) below =
    let same : suc i + j ≡ i + suc j = omega arith in
    low_first (suc i) k n j (omega (arith, below)) ∙ ap (λ p. Some (byte_at p n)) same

-- an atomic, of whose bytes each was told as a payload has it
pub record IsToldAll (message : HeldMessage) (told : ℕ → Option ℕ) (payload address : ℕ) : Type 0 where
  pub carries : has_data message.operation ≡ true
  pub small : message.size ≤ 3
  pub single : length message.beats ≡ 1
  pub even : address % 2 ^ message.size ≡ 0
  pub same : message.address % 4096 ≡ address % 4096
  pub tells : (i : ℕ) → i < 2 ^ message.size → told (address + i) ≡ Some (lane_byte payload (lane_of (address + i)))

module _ (op : AtomicOp) (message : HeldMessage) (told : ℕ → Option ℕ) (payload address : ℕ) (is : IsToldAll message told payload address) where
  -- the operand is cut out at the same lanes
  operand : (step_of op message address).operand ≡ operand_of (request_of message)
  operand =
      ap (λ (bytes : List ℕ). value bytes)
      (shifted (λ i. lane_byte (merged 0 (beat_at message 0).word (beat_at message 0).mask) (lane_of (address + i)))
      (λ i. lane_byte (merged 0 (beat_at message 0).word (beat_at message 0).mask) (lane_of (message.address + i))) 0 0 (2 ^ message.size)
      (λ i below.
      let lane : lane_of (address + (0 + i)) ≡ lane_of (message.address + (0 + i)) = omega (arith, is.same) in
      ap (lane_byte (merged 0 (beat_at message 0).word (beat_at message 0).mask)) lane))
      ∙ operand_made message is.carries is.small is.single

  -- and the old value
  old : operand_in payload address message.size ≡ value (map (λ x. unwrap_or (told x) 0) (range_with_len address (2 ^ message.size)))
  old =
      ap (λ (bytes : List ℕ). value bytes)
      (shifted (λ i. lane_byte payload (lane_of (address + i))) (λ x. unwrap_or (told x) 0) 0 address (2 ^ message.size)
      (λ i below.
      let first : 0 + i ≡ i = omega arith in
      ap (λ j. lane_byte payload (lane_of (address + j))) first ∙ sym (ap (λ (o : Option ℕ). unwrap_or o 0) (is.tells i below))))

  abbrev pub result : ℕ
  result = atomic_result op (2 ^ message.size) (value (map (λ x. unwrap_or (told x) 0) (range_with_len address (2 ^ message.size)))) (operand_of (request_of message))

  result_is : atomic_result op (2 ^ message.size) (operand_in payload address message.size) (step_of op message address).operand ≡ result
  result_is = ap₂ (λ (a b : ℕ). atomic_result op (2 ^ message.size) a b) old operand

  -- the byte at an address, which is one of those on which it acts
  pub made_gives : (x k : ℕ) → address ≤ x → x < address + 2 ^ message.size → x / 8 ≡ address / 8 + k
      → slice_get (made_of op (request_of message) address told) (x - address) ≡ known_byte (x % 8) (made_word (step_of op message address) payload)
  made_gives x k low high at =
      let lane : has_lane (full_mask address message.size) (x % 8) ≡ true = lane_of_range message.size is.small address x k is.even low high at in
      let inside : in_lanes address message.size (x % 8) ≡ true = sym (has_lane-mask_of (in_lanes address message.size) (x % 8) (omega arith)) ∙ lane in
      let place : 0 + (x - address) ≡ x % 8 - lane_of address = behind message.size is.small is.even low high in
      let made : ℕ = atomic_result op (2 ^ message.size) (operand_in payload address message.size) (step_of op message address).operand in
      low_first 0 (2 ^ message.size) result (x - address) (omega (arith, low, high))
      ∙ ap (λ p. Some (byte_at p result)) place
      ∙ ap (λ r. Some (byte_at (x % 8 - lane_of address) r)) (sym result_is)
      ∙ ap (λ (b : Bool). Some (if b then byte_at (x % 8 - lane_of address) made else 0)) (sym inside)
      ∙ ap (λ (b : ℕ). Some b) (sym (lane_byte-placed_at made address message.size (x % 8) (omega arith)))
      ∙ ap (λ (b : Bool). if b then Some (lane_byte (made_word (step_of op message address) payload).value (x % 8)) else None) (sym lane)
    where
      behind : (s : ℕ) → s ≤ 3 → address % 2 ^ s ≡ 0 → address ≤ x → x < address + 2 ^ s → 0 + (x - address) ≡ x % 8 - address % 8
      behind zero small even low high = omega (arith, low, high)
      behind (suc zero) small even low high = omega (arith, even, low, high)
      behind (suc (suc zero)) small even low high = omega (arith, even, low, high)
      behind (suc (suc (suc zero))) small even low high = omega (arith, even, low, high)
      behind (suc (suc (suc (suc s)))) small even low high = absurd (omega (arith, small))
