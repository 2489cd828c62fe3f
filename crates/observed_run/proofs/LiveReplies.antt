-- What is left to tell a client of one of its sources is the reply to its live request of that source, if it has one. It knows the lists of live
-- requests, and a reply by its number; which event changes them is hidden.
use Rattle.std.proofs.Common.{◌≡◌, ℕ, ◌+◌, ◌≤◌, Bool, true, false, List, [], ◌∷◌, ◌++◌, length, Option, Some, None, refl, ap, arith}
use Rattle.std.specs.Prelude.{filter, find}
use Rattle.std.specs.List.{list_any}
use Rattle.std.proofs.lemmas.List.{length-append}
use Rattle.std.proofs.lemmas.List.Elements.{filter-append}
use Rattle.bus_words.specs.Places.{change_first, without_first}
use Rattle.bus_words.proofs.FoundChanges.{find-alone, find-none-kept}
use Rattle.bus_words.proofs.MappedPlaces.{length-filter-map}
use Rattle.tl_messages.specs.declared.DBeat.{DBeat}
use Rattle.axi_beats.specs.declared.RBeat.{RBeat}
use Rattle.axi_beats.specs.declared.Resp.{Resp}
use Rattle.flight_table.specs.LiveRequests.{with_answered}
use Rattle.flight_table.specs.Tables.{has_source}
use Rattle.responses.specs.Gathered.{after_b}
use Rattle.bridge_core.specs.HeldRequests.{BridgedRequest, after_read, after_response, flights_of, settled}

-- ---- who asks

-- whether a live request is a client's, of one of its sources
abbrev pub asks : ℕ → ℕ → BridgedRequest → Bool
asks client source request = has_source client source request.flight

-- the client, source and number of a request
abbrev pub asker : BridgedRequest → ℕ × ℕ × ℕ
asker request = (request.flight.client, request.flight.source, request.flight.number)

-- an answer changes none of them
settled_same : (request : BridgedRequest) → asker (settled request) ≡ asker request
settled_same request = grind arith

pub response_same : (resp : Resp) (request : BridgedRequest) → asker (after_response resp request) ≡ asker request
response_same resp request = settled_same (record request { flight = with_answered request.flight; gathering = after_b resp request.gathering })

pub read_same : (bus_bytes : ℕ) (r : RBeat) (request : BridgedRequest) → asker (after_read bus_bytes r request) ≡ asker request
read_same bus_bytes r request = grind (arith, settled_same)

-- ---- what is owed

module _ (beats : ℕ → List DBeat) where
  -- the beats of the reply to a live request, by its number
  abbrev pub owed_to : Option BridgedRequest → List DBeat
  owed_to None = []
  owed_to (Some request) = beats request.flight.number

  -- of a client's source
  abbrev pub owed : List BridgedRequest → ℕ → ℕ → List DBeat
  owed live client source = owed_to (find (asks client source) live)

  -- a request that changes is owed what it was
  pub owed_changed : (test : BridgedRequest → Bool) (change : BridgedRequest → BridgedRequest) (live : List BridgedRequest) (client source : ℕ)
      → ((request : BridgedRequest) → asker (change request) ≡ asker request) → owed (change_first test change live) client source ≡ owed live client source
  owed_changed test change [] client source same = refl
  owed_changed test change (r ∷ live) client source same = grind (arith, same r, owed_changed test change live client source same)

  -- nothing is owed where nobody asks
  pub owed_none : (live : List BridgedRequest) (client source : ℕ) → list_any (has_source client source) (flights_of live) ≡ false → owed live client source ≡ []
  owed_none [] client source none = refl
  owed_none (r ∷ live) client source none = grind (arith, none, owed_none live client source)

-- ---- a request more

-- its source was free, as it alone has it then
pub free_before : (live : List BridgedRequest) (r : BridgedRequest) (client source : ℕ) → length (filter (has_source client source) (flights_of (live ++ r ∷ []))) ≤ 1
    → asks client source r ≡ true → find (asks client source) live ≡ None
free_before live r client source few here =
    let split = length-append (filter (asks client source) live) (filter (asks client source) (r ∷ [])) in
    let one : length (filter (asks client source) (r ∷ [])) ≡ 1 = rw here refl in
    find-none-kept (asks client source) live
    (omega (arith, few, length-filter-map (has_source client source) (λ (request : BridgedRequest). request.flight) (live ++ r ∷ []), ap length (filter-append (asks client source) live (r ∷ [])), split, one))

-- ---- a request less

-- where the one that passes a test is found by another and taken out, none passes any more
pub find-taken-own : {X : Type 0} (p q : X → Bool) (xs : List X) (x : X) → find p xs ≡ Some x → q x ≡ true → length (filter q xs) ≤ 1 → find q (without_first p xs) ≡ None
find-taken-own p q [] x found passes few = refl
find-taken-own p q (y ∷ ys) x found passes few = grind (arith, found, passes, few, find-none-kept q ys, find-alone p q ys x, find-taken-own p q ys x)

-- and a test that it fails finds what it found
pub find-taken-other : {X : Type 0} (p q : X → Bool) (xs : List X) (x : X) → find p xs ≡ Some x → q x ≡ false → find q (without_first p xs) ≡ find q xs
find-taken-other p q [] x found fails = refl
find-taken-other p q (y ∷ ys) x found fails = grind (arith, found, fails, find-taken-other p q ys x)
