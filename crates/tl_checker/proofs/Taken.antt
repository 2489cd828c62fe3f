-- Beats that a port takes one after another, from the empty front on: they are what a front or a spelling is.
use Rattle.std.proofs.Common.{◌≡◌, ℕ, ◌<◌, true, false, List, [], ◌∷◌, ◌++◌, length, Option, Some, None, refl, sym, ◌∙◌, ap, arith}
use Rattle.std.proofs.lemmas.Bool.{and_parts, and_from}
use Rattle.std.proofs.lemmas.List.{append_assoc, append-nil}
use Rattle.std.specs.List.{list_all}
use Rattle.std.specs.Prelude.{◌↔◌, option_map}
use Rattle.tl_messages.specs.Requests.{HeldMessage, WholeRequest, begun, with_beat, message_of, held_of, request_of}
use Rattle.tl_messages.specs.declared.ABeat.{ABeat}
use Rattle.tl_checker.specs.Ports.{joined}
use Rattle.tl_checker.specs.RequestRules.{TlPortLimits, first_fault, Spells, IsFront}
use Rattle.tl_checker.proofs.BeatRules.{is_right_later, later_none, later_right}
use Rattle.tl_checker.proofs.Fronts.{HasBegun, beats_wanted, spells_begun, front_part, part_front, none_front}
use Rattle.tl_checker.proofs.Taking.{held-append}

-- each beat breaks no rule after those before it, where no source is busy; nothing is asked of how many a message has
abbrev pub AreTaken : TlPortLimits → Option HeldMessage → List ABeat → Type 0
AreTaken limits front [] = Unit {0}
AreTaken limits front (beat ∷ beats) = (first_fault limits front beat false ≡ None) × AreTaken limits (Some (joined limits front beat)) beats

-- what is held after some beats
abbrev pub front_after : TlPortLimits → Option HeldMessage → List ABeat → Option HeldMessage
front_after limits front [] = front
front_after limits front (beat ∷ beats) = front_after limits (Some (joined limits front beat)) beats

-- how many beats a list is to have: as many as its first beat's message, and one at least
abbrev pub wanted_of : List ABeat → ℕ
wanted_of [] = 1
wanted_of (first ∷ rest) = beats_wanted first

-- ---- what is held

-- what is held after some beats is what the list of them holds
front_after-held_of : (limits : TlPortLimits) (before beats : List ABeat) → front_after limits (held_of limits.client before) beats ≡ held_of limits.client (before ++ beats)
front_after-held_of limits before [] = rw (append-nil before) refl
front_after-held_of limits before (beat ∷ beats) =
    ap (λ front. front_after limits front beats) (sym (held-append limits before beat))
    ∙ front_after-held_of limits (before ++ beat ∷ []) beats
    ∙ ap (held_of limits.client) (append_assoc before (beat ∷ []) beats)

pub front_is_held : (limits : TlPortLimits) (beats : List ABeat) → front_after limits None beats ≡ held_of limits.client beats
front_is_held limits beats = front_after-held_of limits [] beats

-- ---- beats that were taken have begun rightly, and the other way round

taken_later : (limits : TlPortLimits) (held : HeldMessage) (beats : List ABeat) → AreTaken limits (Some held) beats → list_all (is_right_later held) beats ≡ true
taken_later limits held [] taken = refl
taken_later limits held (beat ∷ beats) taken =
    and_from (is_right_later held beat) (list_all (is_right_later held) beats) (later_none limits held beat false taken.0) (taken_later limits (with_beat held beat) beats taken.1)

later_taken : (limits : TlPortLimits) (held : HeldMessage) (beats : List ABeat) → list_all (is_right_later held) beats ≡ true → AreTaken limits (Some held) beats
later_taken limits held [] right = tt
later_taken limits held (beat ∷ beats) right =
    let parts = and_parts (is_right_later held beat) (list_all (is_right_later held) beats) right in
    (later_right limits held beat false parts.0, later_taken limits (with_beat held beat) beats parts.1)

pub taken_begun : (limits : TlPortLimits) (first : ABeat) (rest : List ABeat) → AreTaken limits None (first ∷ rest) → HasBegun limits first rest
taken_begun limits first rest taken = record { right = taken.0; later = taken_later limits (begun limits.client first) rest taken.1 }

pub begun_taken : (limits : TlPortLimits) (first : ABeat) (rest : List ABeat) → HasBegun limits first rest → AreTaken limits None (first ∷ rest)
begun_taken limits first rest begins = (begins.right, later_taken limits (begun limits.client first) rest begins.later)

-- ---- fronts and spellings

-- a list of beats is a front exactly where they were taken one after another, and fewer came than their message has
pub front_exact : (limits : TlPortLimits) (beats : List ABeat) → IsFront limits beats ↔ (AreTaken limits None beats × (length beats < wanted_of beats))
front_exact limits [] = ((λ front. (tt, omega arith)), (λ taken. none_front limits))
front_exact limits (first ∷ rest) = (
  (λ front. let part = front_part limits first rest front in (begun_taken limits first rest part.begins, part.fewer)),
  (λ (taken, fewer). part_front limits first rest (record { begins = taken_begun limits first rest taken; fewer = fewer })),
)

-- it spells a request exactly where they were taken one after another, as many came as their message has, and the request is what is
-- held then
pub spelling_exact : (limits : TlPortLimits) (beats : List ABeat) (q : WholeRequest)
    → Spells limits beats q ↔ (AreTaken limits None beats × (length beats ≡ wanted_of beats) × (option_map request_of (front_after limits None beats) ≡ Some q))
spelling_exact limits [] q = ((λ spells. absurd spells), (λ (taken, many, is). absurd (omega arith)))
spelling_exact limits (first ∷ rest) q = (
  (λ spells.
      (begun_taken limits first rest (spells_begun limits first rest q spells), spells.2, ap (option_map request_of) (front_is_held limits (first ∷ rest)) ∙ ap Some (sym spells.3))),
  (λ (taken, many, is).
      let same : q ≡ request_of (message_of limits.client first rest) = cc (sym is ∙ ap (option_map request_of) (front_is_held limits (first ∷ rest))) in
      (taken.0, (taken_begun limits first rest taken).later, many, same)),
)

-- ---- parts of a spelling

taken-append : (limits : TlPortLimits) (front : Option HeldMessage) (beats more : List ABeat) → AreTaken limits front (beats ++ more) → AreTaken limits front beats
taken-append limits front [] more taken = tt
taken-append limits front (beat ∷ beats) more taken = (taken.0, taken-append limits (Some (joined limits front beat)) beats more taken.1)

-- the beats that begin a spelling are taken one after another: no rule refuses one of them
pub prefix_taken : (limits : TlPortLimits) (beats more : List ABeat) (q : WholeRequest) → Spells limits (beats ++ more) q → AreTaken limits None beats
prefix_taken limits beats more q spells = taken-append limits None beats more ((spelling_exact limits (beats ++ more) q).0 spells).0
