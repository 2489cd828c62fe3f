-- What is in flight at the places, and coming, when one request joins the others.
use Rattle.std.proofs.Common.{◌≡◌, ℕ, zero, suc, false, List, [], ◌∷◌, map, set, Option, Some, None, ◌⊎◌, inl, inr, refl, sym, ◌∙◌, ap, subst, arith}
use Rattle.std.specs.Prelude.{option_map, slice_get}
use Rattle.std.specs.List.{list_any}
use Rattle.std.proofs.lemmas.Bool.{cases_eq}
use Rattle.std.proofs.lemmas.Bool.Decides.{nat_tests}
use Rattle.std.proofs.lemmas.List.{map-append}
use Rattle.std.proofs.lemmas.List.Folds.{find-append}
use Rattle.std.proofs.lemmas.Option.{slice_get_within}
use Rattle.bus_words.specs.Places.{AreDistinct}
use Rattle.bus_words.proofs.DistinctPlaces.{distinct-append}
use Rattle.bus_words.proofs.StoredPlaces.{get_set, get_set-other}
use Rattle.scoreboard.specs.Boards.{ClientBoard, client_beside, with_accepted}
use Rattle.scoreboard.specs.Flights.{Flights, Footprint, InFlight, due_to, is_of_source, with_flight}
use Rattle.scoreboard.specs.Races.{beside, flight_beside}
use Rattle.scoreboard.proofs.real_time.FlightLists.{flight_in_beside, flights_beside, none_found, others_of_none}
use Rattle.scoreboard.proofs.real_time.Places.{HaveSources, Place, coming_at, coming_in, due_at, flight_at, flight_in, flights_at, flights_in, flights_other, flights_same}

-- ---- a client with one more

module _ (flight : InFlight) (flights : Flights) where
  found_own : list_any (is_of_source flight.source) flights.due ≡ false → due_to (with_flight flight flights) flight.source ≡ Some flight
  found_own free = grind (arith, nat_tests, find-append (is_of_source flight.source) flights.due (flight ∷ []), none_found flight.source flights.due free)

  found_other : (source : Option ℕ) → (source ≡ Some flight.source → ⊥) → flight_in (with_flight flight flights) source ≡ flight_in flights source
  found_other None differ = refl
  found_other (Some source) differ =
      let other : flight.source ≡ source → ⊥ = λ same. differ (ap Some (sym same)) in
      grind (arith, nat_tests, find-append (is_of_source source) flights.due (flight ∷ []), other)

  pub sources_more : list_any (is_of_source flight.source) flights.due ≡ false → HaveSources flights → HaveSources (with_flight flight flights)
  sources_more free distinct =
      subst AreDistinct (sym (map-append (λ (f : InFlight). f.source) flights.due (flight ∷ [])))
      (distinct-append flight.source (map (λ (f : InFlight). f.source) flights.due) distinct (others_of_none flight.source flights.due free))

-- ---- those beside one that joins

pub at_beside : (footprint : Footprint) (clients : List ClientBoard) (i : Place)
    → flight_at (map (client_beside footprint) clients) i ≡ option_map (flight_beside footprint) (flight_at clients i)
at_beside footprint clients i =
    ap (λ (f : Flights). flight_in f i.source) (flights_beside footprint clients i.client) ∙ flight_in_beside footprint (flights_at clients i.client) i.source

pub coming_beside : (footprint : Footprint) (clients : List ClientBoard) (number : ℕ)
    → coming_at (map (client_beside footprint) clients) number ≡ beside (coming_at clients number) footprint
coming_beside footprint [] number = refl
coming_beside footprint (client ∷ clients) zero = refl
coming_beside footprint (client ∷ clients) (suc number) = coming_beside footprint clients number

-- ---- a client changes

pub coming_same : (clients : List ClientBoard) (number : ℕ) (client changed : ClientBoard) → slice_get clients number ≡ Some client
    → coming_at (set clients number changed) number ≡ changed.coming
coming_same clients number client changed there = ap coming_in (get_set clients number changed (slice_get_within clients number client there))

pub coming_other : (clients : List ClientBoard) (number other : ℕ) (changed : ClientBoard) → (other ≡ number → ⊥)
    → coming_at (set clients number changed) other ≡ coming_at clients other
coming_other clients number other changed differ = ap coming_in (get_set-other clients number other changed differ)

-- a request is taken in
module _ (clients : List ClientBoard) (number : ℕ) (client : ClientBoard) (flight : InFlight) (there : slice_get clients number ≡ Some client)
    (free : list_any (is_of_source flight.source) client.flights.due ≡ false) where
  abbrev taken : List ClientBoard
  taken = set clients number (with_accepted flight client)

  pub own_taken : flight_at (set clients number (with_accepted flight client)) (due_at number flight.source) ≡ Some flight
  own_taken = ap (λ (f : Flights). due_to f flight.source) (flights_same clients number client (with_accepted flight client) there) ∙ found_own flight client.flights free

  pub other_taken : (i : Place) → (i ≡ due_at number flight.source → ⊥) → flight_at (set clients number (with_accepted flight client)) i ≡ flight_at clients i
  other_taken i differ = by_client (cases_eq i.client number)
    where
      by_client : (i.client ≡ number) ⊎ (i.client ≡ number → ⊥) → flight_at taken i ≡ flight_at clients i
      by_client (inr other) = ap (λ (f : Flights). flight_in f i.source) (flights_other clients number i.client (with_accepted flight client) other)
      by_client (inl same) =
          ap (λ (f : Flights). flight_in f i.source)
          (ap (flights_at taken) same ∙ flights_same clients number client (with_accepted flight client) there)
          ∙ found_other flight client.flights i.source (λ source. differ (place_is source))
          ∙ ap (λ (f : Flights). flight_in f i.source) (sym (ap flights_in there) ∙ ap (flights_at clients) (sym same))
        where
          place_is : i.source ≡ Some flight.source → i ≡ due_at number flight.source
          place_is source = ap (λ c. record { client = c; source = i.source }) same ∙ ap (λ s. record { client = number; source = s }) source
