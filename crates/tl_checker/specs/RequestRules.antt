-- The rules on request beats (TileLink 1.8, TL-UL and TL-UH; this project's profile), and the lists of beats that spell a request.
use Rattle.std.specs.Prelude.{ℕ, ◌^◌, ◌%◌, ◌==◌, ◌≡◌, Bool, false, ◌&&◌, ◌||◌, not, List, [], ◌∷◌, ◌++◌, length, Option, Some, None, if◌then◌else◌, nat_lt, nat_le, IsTrue}
use Rattle.std.specs.List.{list_any, list_all, range_with_len}
use Rattle.bus_words.specs.Lanes.{has_lane}
use Rattle.bus_words.specs.Tables.{first_broken}
use Rattle.tl_messages.specs.Lanes.{in_lanes}
use Rattle.tl_messages.specs.Operations.{opcode_of, param_of, opcode_has_data, beats_of}
use Rattle.tl_messages.specs.Requests.{HeldMessage, WholeRequest, begun, message_of, request_of}
use Rattle.tl_messages.specs.declared.ABeat.{ABeat}
use Rattle.data_unit.specs.Words.{full_mask}
use Rattle.tl_checker.specs.declared.Level.{Level}
use Rattle.tl_checker.specs.declared.Level.TheVariants.{Ul, Uh}
use Rattle.tl_checker.specs.declared.TlRule.{TlRule}
use Rattle.tl_checker.specs.declared.TlRule.TheVariants.{Opcode, Level as LevelRule, Size, AtomicSize, Align, Param, Mask, Corrupt, SourceBusy, BurstControl}

-- what a TileLink port allows: its level and its largest size, for the client that it belongs to
pub record TlPortLimits : Type 0 where
  pub client : ℕ
  pub level : Level
  pub max_size : ℕ

-- a TL-UL port has no atomics, no Intent, and no message of more than one beat
abbrev pub beyond_level : Level → ABeat → Bool
beyond_level Uh beat = false
beyond_level Ul beat = beat.opcode == 2 || beat.opcode == 3 || beat.opcode == 5 || nat_lt 3 beat.size

-- the sizes of atomics: every size to 3, so operands of 1, 2, 4 and 8 bytes (this project's profile)
abbrev pub is_atomic_size : ℕ → Bool
is_atomic_size size = nat_le size 3

-- the largest param of an opcode
abbrev pub largest_param : ℕ → ℕ
largest_param opcode = if opcode == 2 then 4 else (if opcode == 3 then 3 else (if opcode == 5 then 1 else 0))

-- whether a mask is wrong: PutPartialData may leave out lanes, the others have just the lanes of address and size
abbrev pub wrong_mask : ABeat → Bool
wrong_mask beat =
    if beat.opcode == 1
    then list_any (λ lane. has_lane beat.mask lane && not (in_lanes beat.address beat.size lane)) (range_with_len 0 8)
    else not (beat.mask == full_mask beat.address beat.size)

-- whether a later beat has the control fields of the message that has begun
abbrev pub same_control : HeldMessage → ABeat → Bool
same_control held beat =
    beat.opcode == opcode_of held.operation && beat.param == param_of held.operation && beat.size == held.size
    && beat.source == held.source && beat.address == held.address

-- the rules on a first beat
abbrev pub first_beat_rules : TlPortLimits → ABeat → Bool → List (Bool × TlRule)
first_beat_rules port beat busy =
    (nat_lt 5 beat.opcode, Opcode)
    ∷ (beyond_level port.level beat, LevelRule)
    ∷ (nat_lt port.max_size beat.size, Size)
    ∷ ((beat.opcode == 2 || beat.opcode == 3) && not (is_atomic_size beat.size), AtomicSize)
    ∷ (not (beat.address % 2 ^ beat.size == 0), Align)
    ∷ (nat_lt (largest_param beat.opcode) beat.param, Param)
    ∷ (wrong_mask beat, Mask)
    ∷ (nat_lt 3 beat.opcode && beat.corrupt, Corrupt)
    ∷ (busy, SourceBusy)
    ∷ []

-- the rules on a later beat
abbrev pub later_beat_rules : HeldMessage → ABeat → List (Bool × TlRule)
later_beat_rules held beat = (not (same_control held beat), BurstControl) ∷ (wrong_mask beat, Mask) ∷ []

-- the first rule that a beat breaks after what a port holds, or none
abbrev pub first_fault : TlPortLimits → Option HeldMessage → ABeat → Bool → Option TlRule
first_fault port None beat busy = first_broken (first_beat_rules port beat busy)
first_fault port (Some held) beat busy = first_broken (later_beat_rules held beat)

-- beats spell a request: the first breaks no rule where no source is busy, the others repeat its control fields with right masks,
-- there are as many as the message has, and the request is what they give together
abbrev pub Spells : TlPortLimits → List ABeat → WholeRequest → Type 0
Spells port [] q = ⊥
Spells port (first ∷ rest) q =
    (first_fault port None first false ≡ None)
    × IsTrue (list_all (λ beat. same_control (begun port.client first) beat && not (wrong_mask beat)) rest)
    × (length (first ∷ rest) ≡ beats_of first.size (opcode_has_data first.opcode))
    × (q ≡ request_of (message_of port.client first rest))

-- beats begin a spelling, and at least one is still to come
abbrev pub IsFront : TlPortLimits → List ABeat → Type 0
IsFront port beats = (next : ABeat) × (more : List ABeat) × (q : WholeRequest) × Spells port (beats ++ next ∷ more) q
