-- What beats that spell a request have in common, and which bytes they give.
use Rattle.std.proofs.Common.{◌≡◌, ℕ, zero, suc, ◌+◌, ◌/◌, ◌^◌, ◌<◌, ◌==◌, true, false, List, [], ◌∷◌, length, Some, refl, ◌∙◌, ap, arith, pow-suc}
use Rattle.std.proofs.lemmas.Bool.Decides.{nat_tests}
use Rattle.std.proofs.lemmas.Bool.{and_parts, or_right}
use Rattle.std.specs.List.{AllByRecursion, list_any, list_all, range_with_len, slice_get}
use Rattle.std.specs.Prelude.{IsSome}
use Rattle.bus_words.specs.Lanes.{has_lane}
use Rattle.tl_messages.specs.Lanes.{lane_of}
use Rattle.tl_messages.specs.Operations.{has_data, beats_of}
use Rattle.tl_messages.specs.Requests.{HeldMessage, WholeRequest, begun, byte_given}
use Rattle.tl_messages.specs.declared.ABeat.{ABeat}
use Rattle.tl_messages.specs.declared.MaskedWord.{MaskedWord}
use Rattle.tl_messages.specs.declared.Operation.TheVariants.{PutPartial}
use Rattle.data_unit.proofs.FullMask.{has_lane-full_mask}
use Rattle.tl_checker.specs.RequestRules.{TlPortLimits, Spells}
use Rattle.tl_checker.specs.Sound.{IsRightMask, IsSound}
use Rattle.tl_checker.proofs.BeatRules.{IsRightFirst, first_none, right_named, is_right_later, later_parts}

-- ---- the control fields of a burst

-- a beat with the control fields of another
pub record HasSameControl (first beat : ABeat) : Type 0 where
  pub opcode : beat.opcode ≡ first.opcode
  pub param : beat.param ≡ first.param
  pub size : beat.size ≡ first.size
  pub source : beat.source ≡ first.source
  pub address : beat.address ≡ first.address

same_as_first : (limits : TlPortLimits) (first beat : ABeat) → IsRightFirst limits first → is_right_later (begun limits.client first) beat ≡ true → HasSameControl first beat
same_as_first limits first beat right later =
    let named = right_named limits first right in
    let control = (later_parts (begun limits.client first) beat later).0 in
    record {
      opcode = control.opcode ∙ named.same_opcode;
      param = control.param ∙ named.same_param;
      size = control.size;
      source = control.source;
      address = control.address;
    }

all_as_first : (limits : TlPortLimits) (first : ABeat) (rest : List ABeat) → IsRightFirst limits first → list_all (is_right_later (begun limits.client first)) rest ≡ true → AllByRecursion (HasSameControl first) rest
all_as_first limits first [] right later = tt
all_as_first limits first (beat ∷ rest) right later =
    let held = begun limits.client first in
    let parts = and_parts (is_right_later held beat) (list_all (is_right_later held) rest) later in
    (same_as_first limits first beat right parts.0, all_as_first limits first rest right parts.1)

-- all beats that spell a request have the opcode, param, size, source and address of the first
pub spelled_alike : (limits : TlPortLimits) (first : ABeat) (rest : List ABeat) (q : WholeRequest) → Spells limits (first ∷ rest) q → AllByRecursion (HasSameControl first) rest
spelled_alike limits first rest q spells = all_as_first limits first rest (first_none limits first false spells.0).0 spells.1

-- ---- the bytes that are given

lane_within : (address n i lane : ℕ) → i < n → lane_of (address + i) ≡ lane → list_any (λ x. lane_of x == lane) (range_with_len address n) ≡ true
lane_within address zero i lane below is = absurd (omega arith)
lane_within address (suc n) zero lane below is = grind (arith, nat_tests, is)
lane_within address (suc n) (suc i) lane below is =
    let next : address + suc i ≡ address + 1 + i = omega arith in
    or_right (lane_of address == lane) (list_any (λ x. lane_of x == lane) (range_with_len (address + 1) n)) (lane_within (address + 1) n i lane (omega arith) (rw next at is))

-- the entry at a place, with what holds of all
entry_at : (P : MaskedWord → Type 0) (xs : List MaskedWord) (k : ℕ) → k < length xs → AllByRecursion P xs → (x : MaskedWord) × (slice_get xs k ≡ Some x) × P x
entry_at P [] k below all = absurd (omega arith)
entry_at P (x ∷ xs) zero below all = (x, refl, all.0)
entry_at P (x ∷ xs) (suc k) below all = entry_at P xs k (omega arith) all.1

-- each byte of a message is in one of its beats
place_within : (size i count : ℕ) → count ≡ beats_of size true → i < 2 ^ size → i / 8 < count
place_within zero i count is below = omega arith
place_within (suc zero) i count is below = omega arith
place_within (suc (suc zero)) i count is below = omega arith
place_within (suc (suc (suc size))) i count is below = omega (arith, pow-suc 2 (suc (suc size)), pow-suc 2 (suc size), pow-suc 2 size)

-- every byte of a request that carries data is given, but for those that PutPartialData leaves out
pub all_given : (limits : TlPortLimits) (message : HeldMessage) (i : ℕ) → IsSound limits message → has_data message.operation ≡ true → (message.operation ≡ PutPartial → ⊥) → i < 2 ^ message.size
    → IsSome (byte_given message.address message.beats i)
all_given limits message i sound carries whole below =
    let count : length message.beats ≡ beats_of message.size true = rw carries at sound.beats in
    let found : (beat : MaskedWord) × (slice_get message.beats (i / 8) ≡ Some beat) × IsRightMask message.operation message.address message.size beat =
    entry_at (IsRightMask message.operation message.address message.size) message.beats (i / 8) (place_within message.size i (length message.beats) count below) sound.masks in
    let lane : ℕ = lane_of (message.address + i) in
    let has : has_lane found.0.mask lane ≡ true =
    ap (λ mask. has_lane mask lane) (found.2.full whole)
    ∙ has_lane-full_mask message.address message.size lane (omega arith)
    ∙ lane_within message.address (2 ^ message.size) i lane below refl in
    rw (found.1, has) refl
