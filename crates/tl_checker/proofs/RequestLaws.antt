-- What holds of every request that beats spell on a port.
use Rattle.std.proofs.Common.{◌≡◌, ℕ, ◌≤◌, ◌==◌, Bool, true, false, not, List, [], ◌∷◌, Option, map, Some, None, refl, sym, ◌∙◌, ap, subst, arith, inl, inr}
use Rattle.std.proofs.lemmas.Bool.Decides.{nat_tests}
use Rattle.std.proofs.lemmas.Bool.{and_parts, cases_Bool, eqb-true, not-false, leb-true}
use Rattle.std.proofs.lemmas.List.{length-map}
use Rattle.std.specs.List.{AllByRecursion, list_any, list_all, range_with_len}
use Rattle.std.specs.Prelude.{IfSome, IsSome, ◌&&◌, ◌||◌}
use Rattle.bus_words.specs.Lanes.{has_lane}
use Rattle.tl_messages.specs.Lanes.{in_lanes}
use Rattle.tl_messages.specs.Operations.{opcode_of, operation_of, atomic_opcode}
use Rattle.tl_messages.specs.Requests.{HeldMessage, begun, masked_word, message_of}
use Rattle.tl_messages.specs.declared.ABeat.{ABeat}
use Rattle.tl_messages.specs.declared.AtomicOp.{AtomicOp}
use Rattle.tl_messages.specs.declared.AtomicOp.TheVariants.{Min}
use Rattle.tl_messages.specs.declared.Operation.{Operation}
use Rattle.tl_messages.specs.declared.Operation.TheVariants.{PutPartial, Atomic}
use Rattle.data_unit.specs.Words.{full_mask}
use Rattle.data_unit.proofs.FullMask.{has_lane-full_mask}
use Rattle.tl_checker.specs.Inside.{whole_at}
use Rattle.tl_checker.specs.Ports.{HasSpelling}
use Rattle.tl_checker.specs.RequestRules.{TlPortLimits, beyond_level, is_atomic_size, wrong_mask}
use Rattle.tl_checker.specs.Sound.{IsRightMask, IsSound}
use Rattle.tl_checker.specs.declared.Level.{Level}
use Rattle.tl_checker.specs.declared.Level.TheVariants.{Ul, Uh}
use Rattle.tl_checker.specs.declared.port.Stage.{Stage}
use Rattle.tl_checker.specs.declared.port.Stage.TheVariants.{Free, Begun, Whole}
use Rattle.tl_checker.proofs.BeatRules.{IsRightFirst, first_none, right_named, is_right_later, later_parts, right_again}
use Rattle.tl_checker.proofs.MaskSubsets.{each_fails}

-- ---- masks

atomic_opcodes : (op : AtomicOp) → (atomic_opcode op == 2 || atomic_opcode op == 3) ≡ true
atomic_opcodes Min = refl
atomic_opcodes _ = refl

is_partial : (operation : Operation) → opcode_of operation ≡ 1 → operation ≡ PutPartial
is_partial PutPartial same = refl
is_partial (Atomic op) same = absurd (cc (rw same at (atomic_opcodes op)))
is_partial _ same = absurd (omega (arith, same))

lane_kept : (here inside : Bool) → (here && not inside) ≡ false → here ≡ true → inside ≡ true
lane_kept here inside kept is = grind arith

right_mask : (operation : Operation) (beat : ABeat) → beat.opcode ≡ opcode_of operation → wrong_mask beat ≡ false → IsRightMask operation beat.address beat.size (masked_word beat)
right_mask operation beat named right =
    elim (cases_Bool (beat.opcode == 1)) [
      | inl partial ↦
          let outside : ℕ → Bool = λ lane. has_lane beat.mask lane && not (in_lanes beat.address beat.size lane) in
          let none : list_any outside (range_with_len 0 8) ≡ false = rw partial at right in
          record {
            within = λ lane below here. lane_kept (has_lane beat.mask lane) (in_lanes beat.address beat.size lane) (each_fails outside 0 8 none lane (omega arith) below) here;
            full = λ other. absurd (other (is_partial operation (sym named ∙ eqb-true beat.opcode 1 partial)));
          }
      | inr other ↦
          let is : beat.mask ≡ full_mask beat.address beat.size = eqb-true beat.mask (full_mask beat.address beat.size) (not-false (beat.mask == full_mask beat.address beat.size) (rw other at right)) in
          record {
            within = λ lane below here. sym (has_lane-full_mask beat.address beat.size lane below) ∙ ap (λ mask. has_lane mask lane) (sym is) ∙ here;
            full = λ other. is;
          }
    ]

later_mask : (held : HeldMessage) (beat : ABeat) → is_right_later held beat ≡ true → IsRightMask held.operation held.address held.size (masked_word beat)
later_mask held beat right =
    let parts = later_parts held beat right in
    let same = parts.0 in
    subst (λ address. IsRightMask held.operation address held.size (masked_word beat)) same.address
    (subst (λ size. IsRightMask held.operation beat.address size (masked_word beat)) same.size (right_mask held.operation beat same.opcode parts.1))

later_masks : (held : HeldMessage) (beats : List ABeat) → list_all (is_right_later held) beats ≡ true → AllByRecursion (IsRightMask held.operation held.address held.size) (map masked_word beats)
later_masks held [] right = tt
later_masks held (beat ∷ beats) right =
    let parts = and_parts (is_right_later held beat) (list_all (is_right_later held) beats) right in
    (later_mask held beat parts.0, later_masks held beats parts.1)

-- ---- requests

small_atomic : (limits : TlPortLimits) (beat : ABeat) → IsRightFirst limits beat → (op : AtomicOp) → operation_of beat.opcode beat.param ≡ Atomic op → beat.size ≤ 3
small_atomic limits beat right op is =
    let opcode : beat.opcode ≡ atomic_opcode op = sym (right_named limits beat right).same_opcode ∙ ap opcode_of is in
    let atomic : (beat.opcode == 2 || beat.opcode == 3) ≡ true = rw opcode (atomic_opcodes op) in
    leb-true beat.size 3 (lane_kept (beat.opcode == 2 || beat.opcode == 3) (is_atomic_size beat.size) right.atomic_size atomic)

small_on_ul : (level : Level) (beat : ABeat) → beyond_level level beat ≡ false → level ≡ Ul → beat.size ≤ 3
small_on_ul Ul beat within same = grind (arith, nat_tests, within)
small_on_ul Uh beat within same = absurd (cc)

pub spelled_sound : (limits : TlPortLimits) (message : HeldMessage) → HasSpelling limits message → IsSound limits message
spelled_sound limits message ([], spelling) = absurd spelling.spells
spelled_sound limits message (first ∷ rest, spelling) =
    let same : message_of limits.client first rest ≡ message = cc (spelling.held) in
    let right : IsRightFirst limits first = (first_none limits first false spelling.spells.0).0 in
    let sound : IsSound limits (message_of limits.client first rest) =
    let named = right_named limits first right in
    record {
      client = refl;
      size = right.size;
      aligned = right.aligned;
      atomic_size = small_atomic limits first right;
      one_beat = small_on_ul limits.level first right.level;
      beats = rw (named.same_opcode, length-map rest masked_word) spelling.spells.2;
      masks = (later_mask (begun limits.client first) first (right_again limits first right), later_masks (begun limits.client first) rest spelling.spells.1);
    } in
    subst (IsSound limits) same sound

-- of what stands whole on a port, if a request does
pub whole_sound : (limits : TlPortLimits) (whole : Option HeldMessage) → IfSome whole (HasSpelling limits) → IfSome whole (IsSound limits)
whole_sound limits None spelled = tt
whole_sound limits (Some message) spelled = spelled_sound limits message spelled

pub standing_sound : (limits : TlPortLimits) (stage : Stage) (message : HeldMessage) → IsSome (whole_at stage message) → IfSome (whole_at stage message) (HasSpelling limits) → IsSound limits message
standing_sound limits Free message stands spelled = absurd (cc (stands))
standing_sound limits Begun message stands spelled = absurd (cc (stands))
standing_sound limits Whole message stands spelled = spelled_sound limits message spelled
