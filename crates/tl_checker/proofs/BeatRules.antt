-- What it says of a beat that it breaks no rule.
use Rattle.std.proofs.Common.{◌≡◌, ℕ, zero, suc, ◌%◌, ◌^◌, ◌≤◌, ◌==◌, nat_lt, Bool, true, false, not, List, [], ◌∷◌, Some, None, refl, arith}
use Rattle.std.specs.Prelude.{◌&&◌, ◌||◌, IsSome}
use Rattle.std.proofs.lemmas.Bool.Decides.{nat_tests}
use Rattle.std.proofs.lemmas.Bool.{and_parts, and_from, eqb-true, eq-eqb, ltb-false, not-true, not-false, not_from_false}
use Rattle.bus_words.specs.Tables.{first_broken}
use Rattle.tl_messages.specs.Operations.{named_operation, operation_of, opcode_of, param_of}
use Rattle.tl_messages.specs.Requests.{HeldMessage, begun}
use Rattle.tl_messages.specs.declared.ABeat.{ABeat}
use Rattle.tl_checker.specs.RequestRules.{TlPortLimits, beyond_level, is_atomic_size, largest_param, wrong_mask, same_control, first_beat_rules, later_beat_rules, first_fault}
use Rattle.tl_checker.specs.declared.TlRule.{TlRule}

-- a table of which no rule is broken, row by row
abbrev pub NoneBroken : List (Bool × TlRule) → Type 0
NoneBroken [] = Unit {0}
NoneBroken ((test, rule) ∷ rows) = (test ≡ false) × NoneBroken rows

pub none_broken : (rows : List (Bool × TlRule)) → first_broken rows ≡ None → NoneBroken rows
none_broken [] none = tt
none_broken ((true, rule) ∷ rows) none = absurd (cc)
none_broken ((false, rule) ∷ rows) none = (refl, none_broken rows none)

-- ---- a first beat

-- a beat that breaks no rule where no message has begun, but for a busy source
pub record IsRightFirst (limits : TlPortLimits) (beat : ABeat) : Type 0 where
  pub opcode : beat.opcode ≤ 5
  pub level : beyond_level limits.level beat ≡ false
  pub size : beat.size ≤ limits.max_size
  pub atomic_size : ((beat.opcode == 2 || beat.opcode == 3) && not (is_atomic_size beat.size)) ≡ false
  pub aligned : beat.address % 2 ^ beat.size ≡ 0
  pub param : beat.param ≤ largest_param beat.opcode
  pub mask : wrong_mask beat ≡ false
  pub sound : (nat_lt 3 beat.opcode && beat.corrupt) ≡ false

pub first_none : (limits : TlPortLimits) (beat : ABeat) (busy : Bool) → first_fault limits None beat busy ≡ None → IsRightFirst limits beat × (busy ≡ false)
first_none limits beat busy none =
    let kept = none_broken (first_beat_rules limits beat busy) none in (
      record {
        opcode = ltb-false 5 beat.opcode kept.0;
        level = kept.1.0;
        size = ltb-false limits.max_size beat.size kept.1.1.0;
        atomic_size = kept.1.1.1.0;
        aligned = eqb-true (beat.address % 2 ^ beat.size) 0 (not-false (beat.address % 2 ^ beat.size == 0) kept.1.1.1.1.0);
        param = ltb-false (largest_param beat.opcode) beat.param kept.1.1.1.1.1.0;
        mask = kept.1.1.1.1.1.1.0;
        sound = kept.1.1.1.1.1.1.1.0;
      },
      kept.1.1.1.1.1.1.1.1.0,
    )

-- only the last rule asks for the source
pub first_free : (limits : TlPortLimits) (beat : ABeat) (busy : Bool) → first_fault limits None beat false ≡ None → busy ≡ false → first_fault limits None beat busy ≡ None
first_free limits beat busy none free = rw free none

-- ---- the operation that a beat's opcode and param name

pub record IsNamed (opcode param : ℕ) : Type 0 where
  pub some : IsSome (named_operation opcode param)
  pub same_opcode : opcode_of (operation_of opcode param) ≡ opcode
  pub same_param : param_of (operation_of opcode param) ≡ param

is_named : (opcode param : ℕ) → opcode ≤ 5 → param ≤ largest_param opcode → IsNamed opcode param
is_named zero zero few small = record { some = refl; same_opcode = refl; same_param = refl }
is_named (suc zero) zero few small = record { some = refl; same_opcode = refl; same_param = refl }
is_named (suc (suc zero)) zero few small = record { some = refl; same_opcode = refl; same_param = refl }
is_named (suc (suc zero)) (suc zero) few small = record { some = refl; same_opcode = refl; same_param = refl }
is_named (suc (suc zero)) (suc (suc zero)) few small = record { some = refl; same_opcode = refl; same_param = refl }
is_named (suc (suc zero)) (suc (suc (suc zero))) few small = record { some = refl; same_opcode = refl; same_param = refl }
is_named (suc (suc zero)) (suc (suc (suc (suc zero)))) few small = record { some = refl; same_opcode = refl; same_param = refl }
is_named (suc (suc (suc zero))) zero few small = record { some = refl; same_opcode = refl; same_param = refl }
is_named (suc (suc (suc zero))) (suc zero) few small = record { some = refl; same_opcode = refl; same_param = refl }
is_named (suc (suc (suc zero))) (suc (suc zero)) few small = record { some = refl; same_opcode = refl; same_param = refl }
is_named (suc (suc (suc zero))) (suc (suc (suc zero))) few small = record { some = refl; same_opcode = refl; same_param = refl }
is_named (suc (suc (suc (suc zero)))) zero few small = record { some = refl; same_opcode = refl; same_param = refl }
is_named (suc (suc (suc (suc (suc zero))))) zero few small = record { some = refl; same_opcode = refl; same_param = refl }
is_named (suc (suc (suc (suc (suc zero))))) (suc zero) few small = record { some = refl; same_opcode = refl; same_param = refl }
is_named _ _ few small = absurd (omega (arith, few, small))

pub right_named : (limits : TlPortLimits) (beat : ABeat) → IsRightFirst limits beat → IsNamed beat.opcode beat.param
right_named limits beat right = is_named beat.opcode beat.param right.opcode right.param

-- ---- a later beat

-- whether a later beat repeats the control fields of the message that has begun, with a right mask
abbrev pub is_right_later : HeldMessage → ABeat → Bool
is_right_later held beat = same_control held beat && not (wrong_mask beat)

pub later_none : (limits : TlPortLimits) (held : HeldMessage) (beat : ABeat) (busy : Bool) → first_fault limits (Some held) beat busy ≡ None → is_right_later held beat ≡ true
later_none limits held beat busy none =
    let kept = none_broken (later_beat_rules held beat) none in
    and_from (same_control held beat) (not (wrong_mask beat)) (not-false (same_control held beat) kept.0) (not_from_false (wrong_mask beat) kept.1.0)

pub later_right : (limits : TlPortLimits) (held : HeldMessage) (beat : ABeat) (busy : Bool) → is_right_later held beat ≡ true → first_fault limits (Some held) beat busy ≡ None
later_right limits held beat busy right =
    let parts = and_parts (same_control held beat) (not (wrong_mask beat)) right in
    rw (parts.0, not-true (wrong_mask beat) parts.1) refl

-- a beat with the control fields of a message that has begun
pub record HasControlOf (held : HeldMessage) (beat : ABeat) : Type 0 where
  pub opcode : beat.opcode ≡ opcode_of held.operation
  pub param : beat.param ≡ param_of held.operation
  pub size : beat.size ≡ held.size
  pub source : beat.source ≡ held.source
  pub address : beat.address ≡ held.address

pub control_of : (held : HeldMessage) (beat : ABeat) → same_control held beat ≡ true → HasControlOf held beat
control_of held beat same =
    record {
      opcode = grind (arith, nat_tests, same);
      param = grind (arith, nat_tests, same);
      size = grind (arith, nat_tests, same);
      source = grind (arith, nat_tests, same);
      address = grind (arith, nat_tests, same);
    }

-- a right later beat, in its parts
pub later_parts : (held : HeldMessage) (beat : ABeat) → is_right_later held beat ≡ true → HasControlOf held beat × (wrong_mask beat ≡ false)
later_parts held beat right =
    let parts = and_parts (same_control held beat) (not (wrong_mask beat)) right in
    (control_of held beat parts.0, not-true (wrong_mask beat) parts.1)

-- a right first beat is also right after itself
pub right_again : (limits : TlPortLimits) (beat : ABeat) → IsRightFirst limits beat → is_right_later (begun limits.client beat) beat ≡ true
right_again limits beat right =
    let named = right_named limits beat right in
    rw (right.mask, named.same_opcode, named.same_param, eq-eqb beat.opcode beat.opcode refl, eq-eqb beat.param beat.param refl, eq-eqb beat.size beat.size refl, eq-eqb beat.source beat.source refl, eq-eqb beat.address beat.address refl)
    refl
