-- The last request of each client's source, and that what is in flight to it is where that request acts.
use Rattle.std.proofs.Common.{◌≡◌, ℕ, false, List, [], ◌∷◌, ◌++◌, Option, Some, None, if◌then◌else◌, inl, inr, refl, sym, ◌∙◌, subst, arith}
use Rattle.std.specs.List.{find, list_any}
use Rattle.std.specs.Option.{option_or}
use Rattle.tl_messages.specs.Requests.{WholeRequest}
use Rattle.tl_messages.specs.declared.DBeat.{DBeat}
use Rattle.setups.specs.Setups.{SetupLists}
use Rattle.scoreboard.specs.Flights.{Footprint, InFlight, is_of_source}
use Rattle.scoreboard.specs.Races.{may_write}
use Rattle.scoreboard.specs.Right.{acts, is_of}
use Rattle.scoreboard.proofs.acceptance_order.DueLists.{AreDues, none_more, other_without_beat, without_beat}
use Rattle.scoreboard.proofs.acceptance_order.Owed.{eqb_same, same_or_not}

-- ---- the last request

abbrev pub last_request : ℕ → ℕ → List WholeRequest → Option WholeRequest
last_request client source [] = None
last_request client source (q ∷ qs) = option_or (last_request client source qs) (if is_of client source q then Some q else None)

-- with one more
pub last_with : (client source : ℕ) (qs : List WholeRequest) (q : WholeRequest)
    → last_request client source (qs ++ q ∷ []) ≡ (if is_of client source q then Some q else last_request client source qs)
last_with client source [] q = refl
last_with client source (first ∷ qs) q = grind (arith, last_with client source qs q)

-- one behind which there is none of its source
pub last_here : (q : WholeRequest) (later : List WholeRequest) → list_any (is_of q.client q.source) later ≡ false → last_request q.client q.source (q ∷ later) ≡ Some q
last_here q later none = rw (none_last q.client q.source later none, eqb_same q.client, eqb_same q.source) refl
  where
    none_last : (client source : ℕ) (qs : List WholeRequest) → list_any (is_of client source) qs ≡ false → last_request client source qs ≡ None
    none_last client source [] none = refl
    none_last client source (first ∷ qs) none = grind (arith, none, none_last client source qs)

-- ---- where it acts

-- what is in flight is where a request acts
pub record IsWhere (setup : SetupLists) (q : WholeRequest) (footprint : Footprint) : Type 0 where
  pub writes : footprint.writes ≡ (acts setup (λ y. false) q).writes
  pub address : footprint.address ≡ (acts setup (λ y. false) q).address
  pub size : footprint.size ≡ (acts setup (λ y. false) q).size

-- so it may write the same
pub writes_same : (setup : SetupLists) (q : WholeRequest) (footprint : Footprint) → IsWhere setup q footprint → (x : ℕ) → may_write footprint x ≡ may_write (acts setup (λ y. false) q) x
writes_same setup q footprint is x = rw (is.writes, is.address, is.size) refl

-- the last request of a client's source is there, and acts where this does
pub record IsOfLast (setup : SetupLists) (client source : ℕ) (qs : List WholeRequest) (footprint : Footprint) : Type 0 where
  pub request : WholeRequest
  pub last : last_request client source qs ≡ Some request
  pub where_it_acts : IsWhere setup request footprint

-- ---- one taken out of those in flight, and put back with the beats that are left

-- what is in flight then was before
pub record WasInFlight (source : ℕ) (flights : List InFlight) (footprint : Footprint) : Type 0 where
  pub flight : InFlight
  pub found : find (is_of_source source) flights ≡ Some flight
  pub same : flight.footprint ≡ footprint

pub was_in_flight : (flights : List InFlight) (flight : InFlight) (rest : List DBeat) (source : ℕ) (now : InFlight) → AreDues flights → find (is_of_source flight.source) flights ≡ Some flight
    → find (is_of_source source) (without_beat flights flight.source flight rest) ≡ Some now → WasInFlight source flights now.footprint
was_in_flight flights flight rest source now dues there found = elim (same_or_not source flight.source) [
  | inl same ↦ record { flight = flight; found = rw same there; same = own rest (subst (λ n. find (is_of_source n) (without_beat flights flight.source flight rest) ≡ Some now) same found) }
  | inr other ↦ record { flight = now; found = sym (other_without_beat flights flight rest source other) ∙ found; same = refl }
]
  where
    own : (beats : List DBeat) → find (is_of_source flight.source) (without_beat flights flight.source flight beats) ≡ Some now → flight.footprint ≡ now.footprint
    own [] is = absurd (cc (sym (none_more flight.source flights dues) ∙ is))
    own (beat ∷ beats) is =
        let here : Some (record flight { beats = beat ∷ beats }) ≡ Some now = sym (rw (eqb_same flight.source) refl) ∙ is in
        grind (arith, here)
