-- A beat on channel D: what is in flight to its client then, and the footprints.
use Rattle.std.proofs.Common.{◌≡◌, ℕ, ◌==◌, Bool, true, false, List, [], ◌∷◌, map, set, Option, Some, None, ◌⊎◌, inl, inr, refl, sym, ◌∙◌, ap, subst, arith}
use Rattle.std.specs.Prelude.{◌≢◌, is_some, slice_get}
use Rattle.std.specs.List.{AllByRecursion, find, list_any}
use Rattle.std.proofs.lemmas.Bool.{cases_eq, ne_eqb}
use Rattle.std.proofs.lemmas.Bool.Decides.{nat_tests}
use Rattle.bus_words.specs.Places.{AreDistinct, without_first}
use Rattle.bus_words.proofs.DistinctPlaces.{distinct-without_first}
use Rattle.scoreboard.specs.Boards.{ClientBoard}
use Rattle.scoreboard.specs.Flights.{Flights, InFlight, begun_after, due_after, flights_after, is_of_source, next_reply, no_footprint}
use Rattle.scoreboard.specs.Races.{may_write}
use Rattle.scoreboard.proofs.MappedLists.{find_other, without_first_map}
use Rattle.scoreboard.proofs.real_time.Apart.{AreApart, AreEither}
use Rattle.scoreboard.proofs.real_time.Places.{HaveSources, Place, begun_at, flight_at, flight_in, flights_at, flights_in, flights_other, flights_same, footprint_in}
use Rattle.scoreboard.proofs.real_time.ReplyMoves.{AreMoved}
use Rattle.scoreboard.proofs.real_time.ReplySteps.{next_at, next_client}

-- ---- one that is due no more

abbrev sources_of : List InFlight → List ℕ
sources_of due = map (λ (flight : InFlight). flight.source) due

module _ (source : ℕ) where
  abbrev less : List InFlight → List InFlight
  less due = without_first (is_of_source source) due

  -- no other is of its source
  none_found : (number : ℕ) (due : List InFlight) → AllByRecursion (λ m. m ≢ number) (sources_of due) → number ≡ source → find (is_of_source source) due ≡ None
  none_found number [] others is = refl
  none_found number (flight ∷ due) others is = rw (ne_eqb flight.source source (λ same. others.0 (same ∙ sym is))) (none_found number due others.1 is)

  pub found_gone : (due : List InFlight) → AreDistinct (sources_of due) → find (is_of_source source) (less due) ≡ None
  found_gone [] distinct = refl
  found_gone (flight ∷ due) distinct = grind (arith, nat_tests, none_found flight.source due distinct.0, found_gone due distinct.1)

  none_less : (other : ℕ) (due : List InFlight) → list_any (is_of_source other) due ≡ false → list_any (is_of_source other) (less due) ≡ false
  none_less other [] none = refl
  none_less other (flight ∷ due) none = grind (arith, none_less other due)

  -- ---- all of a client

  pub sources_after : (flights : Flights) → HaveSources flights → HaveSources (flights_after flights source)
  sources_after flights distinct = by_begun flights.begun
    where
      by_begun : (o : Option InFlight) → AreDistinct (sources_of (due_after o flights.due source))
      by_begun None =
          subst AreDistinct (sym (without_first_map (λ n. n == source) (λ (flight : InFlight). flight.source) flights.due))
          (distinct-without_first (λ n. n == source) (sources_of flights.due) distinct)
      by_begun (Some flight) = distinct

  pub free_after : (flights : Flights) (other : ℕ) → list_any (is_of_source other) flights.due ≡ false
      → list_any (is_of_source other) (flights_after flights source).due ≡ false
  free_after flights other none = grind (arith, none, none_less other flights.due none)

  -- a beat of another source than that of the reply that has begun changes nothing
  pub flights_still : (flights : Flights) (flight : InFlight) → flights.begun ≡ Some flight → (flight.source == source) ≡ false → flights_after flights source ≡ flights
  flights_still flights flight is other = rw (is, other) refl

-- ---- by their places

module _ (clients : List ClientBoard) (number source : ℕ) (client : ClientBoard) (there : slice_get clients number ≡ Some client)
    (begun : Bool) (flag : begun ≡ is_some (flight_at clients (begun_at number))) where
  abbrev changed : ClientBoard
  changed = record client { flights = flights_after client.flights source }

  abbrev now : Flights
  now = flights_after client.flights source

  own : flights_at clients number ≡ client.flights
  own = ap flights_in there

  own_now : flights_at (set clients number changed) number ≡ now
  own_now = flights_same clients number client changed there

  has : begun ≡ is_some client.flights.begun
  has = flag ∙ ap (λ (flights : Flights). is_some flights.begun) own

  abbrev next : Bool → Place
  next b = next_at b number source

  -- the request to which the beat is due
  pub next_is : flight_at clients (next_at begun number source) ≡ next_reply client.flights source
  next_is = grind (arith, has, own)

  gone : HaveSources client.flights → (next begun ≡ begun_at number → ⊥) → flight_at (set clients number changed) (next begun) ≡ None
  gone distinct away = grind (arith, has, away, own_now, found_gone source client.flights.due distinct)

  others : (place : Place) → (place ≡ next begun → ⊥) → (place ≡ begun_at number → ⊥) → flight_at (set clients number changed) place ≡ flight_at clients place
  others place away apart = by_client (cases_eq place.client number)
    where
      by_source : (s : Option ℕ) → (record { client = number; source = s } ≡ next begun → ⊥) → (record { client = number; source = s } ≡ begun_at number → ⊥)
          → flight_in now s ≡ flight_in client.flights s
      by_source None differ other = absurd (other refl)
      by_source (Some s) differ other = grind (arith, has, differ, find_other source s client.flights.due)

      by_client : (place.client ≡ number) ⊎ (place.client ≡ number → ⊥) → flight_at (set clients number changed) place ≡ flight_at clients place
      by_client (inr differ) = ap (λ (flights : Flights). flight_in flights place.source) (flights_other clients number place.client changed differ)
      by_client (inl same) =
          let is : place ≡ record { client = number; source = place.source } = ap (λ c. record { client = c; source = place.source }) same in
          rw (same, own_now, own) (by_source place.source (λ other. away (is ∙ other)) (λ other. apart (is ∙ other)))

  pub are_moved : HaveSources client.flights
      → AreMoved number source (next_at begun number source) (flight_at clients) (flight_at (set clients number (record client { flights = flights_after client.flights source })))
  are_moved distinct =
      record {
        home = next_client begun number source;
        next = ap (λ (flights : Flights). flights.begun) own_now ∙ ap (λ (o : Option InFlight). begun_after o source) (sym next_is);
        gone = gone distinct;
        others = others;
      }

-- ---- the footprints

module _ (number source : ℕ) (from : Place) (flights new_flights : Place → Option InFlight) (are : AreMoved number source from flights new_flights) where
  -- the footprint at a place is none, or that of the request to which the beat is due, or what it was
  data Was (place : Place) : Type 0 where
    Nothing : footprint_in (new_flights place) ≡ no_footprint → Was place
    Moved : place ≡ begun_at number → footprint_in (new_flights place) ≡ footprint_in (flights from) → Was place
    Kept : (place ≡ from → ⊥) → footprint_in (new_flights place) ≡ footprint_in (flights place) → Was place

  was : (place : Place) → Was place
  was place = grind (arith, are.next, are.gone, are.others, footprint_in (begun_after (flights from) source), footprint_in (flights from), begun_at number)

  pub still_apart : AreApart (λ place. footprint_in (flights place)) → AreApart (λ place. footprint_in (new_flights place))
  still_apart old = record { apart = λ i j x differ determined. by_both i j x (was i) (was j) differ determined }
    where
      by_both : (i j : Place) (x : ℕ) → Was i → Was j → (i ≡ j → ⊥) → (footprint_in (new_flights i)).determined x ≡ true
          → may_write (footprint_in (new_flights j)) x ≡ false
      by_both i j x first other differ determined = grind (arith, first, other, differ, determined)

  pub still_either : (indeterminate : ℕ → Bool) → AreEither indeterminate (λ place. footprint_in (flights place))
      → AreEither indeterminate (λ place. footprint_in (new_flights place))
  still_either indeterminate old = grind (arith, old)
