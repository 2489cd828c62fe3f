-- A beat on channel A after those of the message that has begun: what its answer says of them all.
use Rattle.std.proofs.Common.{◌≡◌, ℕ, ◌<◌, ◌==◌, Bool, true, false, List, [], ◌∷◌, ◌++◌, length, Some, Ok, refl, ◌∙◌, ap, arith}
use Rattle.std.specs.Prelude.{option_map}
use Rattle.std.proofs.lemmas.Bool.{not-true}
use Rattle.tl_messages.specs.Requests.{WholeRequest, held_of, request_of}
use Rattle.tl_messages.specs.Operations.{beats_of, opcode_has_data}
use Rattle.tl_messages.specs.declared.ABeat.{ABeat}
use Rattle.tl_checker.specs.Ports.{is_free, joined, judged}
use Rattle.tl_checker.specs.RequestRules.{IsFront, Spells, TlPortLimits}
use Rattle.tl_checker.specs.declared.Progress.TheVariants.{More, Whole}
use Rattle.tl_checker.proofs.Taken.{front_exact, wanted_of}
use Rattle.tl_checker.proofs.Taking.{reads, whole_by}
use Rattle.scoreboard.specs.Observed.{is_complete}
use Rattle.scoreboard.proofs.acceptance_order.Owed.{eqb_same}

-- ---- how many beats there are

pub front_lacks : (beats : List ABeat) → length beats < wanted_of beats → is_complete beats ≡ false
front_lacks beats fewer = grind (arith, fewer)

pub spelling_complete : (limits : TlPortLimits) (beats : List ABeat) (q : WholeRequest) → Spells limits beats q → is_complete beats ≡ true
spelling_complete limits [] q spells = absurd spells
spelling_complete limits (first ∷ rest) q spells = ap (λ n. n == beats_of first.size (opcode_has_data first.opcode)) spells.2 ∙ eqb_same (beats_of first.size (opcode_has_data first.opcode))

-- ---- what the answer says

-- the source of a first beat is free
abbrev pub IsFreeFor : List ABeat → Bool → Type 0
IsFreeFor begun busy = begun ≡ [] → busy ≡ false

free_of : (client : ℕ) (begun : List ABeat) (busy : Bool) → is_free (held_of client begun) busy ≡ true → IsFreeFor begun busy
free_of client [] busy free none = not-true busy free
free_of client (first ∷ rest) busy free none = absurd (cc (none))

of_free : (client : ℕ) (begun : List ABeat) (busy : Bool) → IsFreeFor begun busy → is_free (held_of client begun) busy ≡ true
of_free client begun busy free = grind (arith, free)

pub record GoesOn (limits : TlPortLimits) (beats : List ABeat) (beat : ABeat) (busy : Bool) : Type 0 where
  pub front : IsFront limits (beats ++ beat ∷ [])
  pub incomplete : is_complete (beats ++ beat ∷ []) ≡ false
  pub free : IsFreeFor beats busy

pub record EndsHere (limits : TlPortLimits) (beats : List ABeat) (beat : ABeat) (busy : Bool) : Type 0 where
  pub spells : Spells limits (beats ++ beat ∷ []) (request_of (joined limits (held_of limits.client beats) beat))
  pub complete : is_complete (beats ++ beat ∷ []) ≡ true
  pub free : IsFreeFor beats busy

pub goes_on : (limits : TlPortLimits) (beats : List ABeat) (beat : ABeat) (busy : Bool) → IsFront limits beats → judged limits (held_of limits.client beats) beat busy ≡ Ok More → GoesOn limits beats beat busy
goes_on limits beats beat busy front is =
    grind (arith, front, is, reads limits beats beat busy front, front_lacks (beats ++ beat ∷ []), front_exact limits (beats ++ beat ∷ []))

pub ends_here : (limits : TlPortLimits) (beats : List ABeat) (beat : ABeat) (busy : Bool) → IsFront limits beats → judged limits (held_of limits.client beats) beat busy ≡ Ok Whole → EndsHere limits beats beat busy
ends_here limits beats beat busy front is =
    let message = joined limits (held_of limits.client beats) beat in
    let stands : option_map request_of (whole_by (judged limits (held_of limits.client beats) beat busy) message) ≡ Some (request_of message) = rw is refl in
    let told = ((reads limits beats beat busy front).spelled (request_of message)).0 (is, stands) in
    record { spells = told.1; complete = spelling_complete limits (beats ++ beat ∷ []) (request_of message) told.1; free = free_of limits.client beats busy told.0 }

pub may_go_on : (limits : TlPortLimits) (beats : List ABeat) (beat : ABeat) (busy : Bool) → IsFront limits beats → IsFront limits (beats ++ beat ∷ []) → IsFreeFor beats busy
    → judged limits (held_of limits.client beats) beat busy ≡ Ok More
may_go_on limits beats beat busy front longer free = (reads limits beats beat busy front).more.1 (of_free limits.client beats busy free, longer)

pub may_end : (limits : TlPortLimits) (beats : List ABeat) (beat : ABeat) (busy : Bool) (q : WholeRequest) → IsFront limits beats → Spells limits (beats ++ beat ∷ []) q → IsFreeFor beats busy
    → judged limits (held_of limits.client beats) beat busy ≡ Ok Whole
may_end limits beats beat busy q front spells free = (((reads limits beats beat busy front).spelled q).1 (of_free limits.client beats busy free, spells)).0
