-- The requests in flight as lists have them, and by their places.
use Rattle.std.proofs.Common.{◌≡◌, ◌≢◌, ℕ, zero, suc, ◌==◌, Bool, false, ◌||◌, List, [], ◌∷◌, ◌++◌, map, length, Option, Some, None, if◌then◌else◌, inl, inr, refl, sym, ◌∙◌, ap, subst, arith}
use Rattle.std.specs.Prelude.{option_map, slice_get}
use Rattle.std.specs.List.{AllByRecursion, find, list_any}
use Rattle.std.specs.Option.{option_to_list}
use Rattle.std.proofs.lemmas.Bool.{cases_eq}
use Rattle.std.proofs.lemmas.Bool.Decides.{nat_tests}
use Rattle.std.proofs.lemmas.List.Folds.{list_any-append}
use Rattle.std.proofs.lemmas.Option.{slice_get_past}
use Rattle.std.proofs.lemmas.Simd.{map-map}
use Rattle.bus_words.specs.Places.{AreDistinct}
use Rattle.scoreboard.specs.Boards.{ClientBoard, client_beside, client_footprints, footprints_of}
use Rattle.scoreboard.specs.Flights.{Flights, Footprint, InFlight, each_flight, in_flight, is_of_source, no_footprint}
use Rattle.scoreboard.specs.Races.{flight_beside}
use Rattle.scoreboard.proofs.MappedLists.{find_map}
use Rattle.scoreboard.proofs.real_time.Apart.{AreAll}
use Rattle.scoreboard.proofs.real_time.Places.{HaveSources, NothingComes, begun_at, coming_at, flight_in, flights_at, flights_in, footprint_at, footprint_in}

abbrev source_of : InFlight → ℕ
source_of flight = flight.source

abbrev footprint_of : InFlight → Footprint
footprint_of flight = flight.footprint

-- no two of a client that wait for their replies are of one source
abbrev pub HaveAllSources : List ClientBoard → Type 0
HaveAllSources clients = (number : ℕ) (client : ClientBoard) → slice_get clients number ≡ Some client → HaveSources client.flights

-- ---- by their sources

-- of a source that no request has there is none
pub none_found : (source : ℕ) (due : List InFlight) → list_any (is_of_source source) due ≡ false → find (is_of_source source) due ≡ None
none_found source [] none = refl
none_found source (flight ∷ due) none = grind (arith, none, none_found source due)

none_of_others : (source : ℕ) (due : List InFlight) → AllByRecursion (λ m. m ≢ source) (map source_of due) → list_any (is_of_source source) due ≡ false
none_of_others source [] others = refl
none_of_others source (flight ∷ due) others = grind (arith, nat_tests, others.0, none_of_others source due others.1)

-- and none of the others is of it
pub others_of_none : (source : ℕ) (due : List InFlight) → list_any (is_of_source source) due ≡ false → AllByRecursion (λ m. m ≢ source) (map source_of due)
others_of_none source [] none = tt
others_of_none source (flight ∷ due) none = (grind (arith, nat_tests, none), others_of_none source due (grind (arith, none)))

-- ---- beside one that joins

module _ (footprint : Footprint) where
  pub sources_kept : (flights : Flights) → HaveSources flights → HaveSources (each_flight (flight_beside footprint) flights)
  sources_kept flights distinct = subst AreDistinct (sym (map-map source_of (flight_beside footprint) flights.due)) distinct

  -- what is in flight at a place
  pub flight_in_beside : (flights : Flights) (source : Option ℕ)
      → flight_in (each_flight (flight_beside footprint) flights) source ≡ option_map (flight_beside footprint) (flight_in flights source)
  flight_in_beside flights None = refl
  flight_in_beside flights (Some source) = find_map (is_of_source source) (flight_beside footprint) flights.due

  pub flights_beside : (clients : List ClientBoard) (number : ℕ)
      → flights_at (map (client_beside footprint) clients) number ≡ each_flight (flight_beside footprint) (flights_at clients number)
  flights_beside [] number = refl
  flights_beside (client ∷ clients) zero = refl
  flights_beside (client ∷ clients) (suc number) = flights_beside clients number

  -- each client beside it was one
  pub client_was : (clients : List ClientBoard) (number : ℕ) (client : ClientBoard) → slice_get (map (client_beside footprint) clients) number ≡ Some client
      → (was : ClientBoard) × (slice_get clients number ≡ Some was) × (client_beside footprint was ≡ client)
  client_was [] number client is = absurd (cc (is))
  client_was (first ∷ clients) zero client is = (first, refl, cc (is))
  client_was (first ∷ clients) (suc number) client is = client_was clients number client is

-- ---- all of some clients

module _ (test : Footprint → Bool) (nobody : test no_footprint ≡ false) where
  -- what none in the list does
  each_due : (source : ℕ) (due : List InFlight) → list_any test (map footprint_of due) ≡ false → test (footprint_in (find (is_of_source source) due)) ≡ false
  each_due source [] none = nobody
  each_due source (flight ∷ due) none = grind (arith, none, each_due source due)

  -- what none does that is found by its source
  none_due : (due : List InFlight) → AreDistinct (map source_of due) → ((source : ℕ) → test (footprint_in (find (is_of_source source) due)) ≡ false)
      → list_any test (map footprint_of due) ≡ false
  none_due [] distinct each = refl
  none_due (flight ∷ due) distinct each = grind (arith, own, none_due due distinct.1 (λ source. by_source source (each source)))
    where
      own : test flight.footprint ≡ false
      own = grind (arith, nat_tests, each flight.source)

      by_source : (source : ℕ) → test (footprint_in (if flight.source == source then Some flight else find (is_of_source source) due)) ≡ false
          → test (footprint_in (find (is_of_source source) due)) ≡ false
      by_source source is =
          elim (cases_eq flight.source source) [
            | inl same ↦ rw (none_found source due (ap (λ s. list_any (is_of_source s) due) (sym same) ∙ none_of_others flight.source due distinct.0)) nobody
            | inr differ ↦ grind (arith, nat_tests, differ, is)
          ]

  -- of one client
  of_client : (due : List InFlight) (begun : Option InFlight)
      → list_any test (map footprint_of (due ++ option_to_list begun)) ≡ (list_any test (map footprint_of due) || test (footprint_in begun))
  of_client [] None = sym nobody
  of_client [] (Some flight) = grind arith
  of_client (flight ∷ due) begun = grind (arith, of_client due begun)

  of_clients : (client : ClientBoard) (clients : List ClientBoard)
      → list_any test (footprints_of (client ∷ clients))
      ≡ (list_any test (map footprint_of client.flights.due) || test (footprint_in client.flights.begun) || test client.coming
      || list_any test (footprints_of clients))
  of_clients client clients =
      list_any-append test (client_footprints client) (footprints_of clients)
      ∙ ap (λ (b : Bool). b || list_any test (footprints_of clients)) (list_any-append test (map footprint_of (in_flight client.flights)) (client.coming ∷ []))
      ∙ rw (of_client client.flights.due client.flights.begun) (grind arith)

  pub each_of : (clients : List ClientBoard) → list_any test (footprints_of clients) ≡ false → (number : ℕ) (source : Option ℕ)
      → test (footprint_in (flight_in (flights_at clients number) source)) ≡ false
  each_of [] none number None = nobody
  each_of [] none number (Some source) = nobody
  each_of (client ∷ clients) none zero None = grind (arith, none, of_clients client clients)
  each_of (client ∷ clients) none zero (Some source) = each_due source client.flights.due (grind (arith, none, of_clients client clients))
  each_of (client ∷ clients) none (suc number) source = each_of clients (grind (arith, none, of_clients client clients)) number source

  -- nor what a client has begun
  pub each_coming : (clients : List ClientBoard) → list_any test (footprints_of clients) ≡ false → (number : ℕ) → test (coming_at clients number) ≡ false
  each_coming [] none number = nobody
  each_coming (client ∷ clients) none zero = grind (arith, none, of_clients client clients)
  each_coming (client ∷ clients) none (suc number) = each_coming clients (grind (arith, none, of_clients client clients)) number

  pub none_of : (clients : List ClientBoard) → HaveAllSources clients
      → ((number : ℕ) (source : Option ℕ) → test (footprint_in (flight_in (flights_at clients number) source)) ≡ false)
      → ((number : ℕ) → test (coming_at clients number) ≡ false)
      → list_any test (footprints_of clients) ≡ false
  none_of [] distinct each coming = refl
  none_of (client ∷ clients) distinct each coming =
      let due = none_due client.flights.due (distinct 0 client refl) (λ source. each 0 (Some source)) in
      let rest = none_of clients (λ number. distinct (suc number)) (λ number. each (suc number)) (λ number. coming (suc number)) in
      of_clients client clients ∙ rw (due, each 0 None, coming 0, rest) refl

-- what nobody has begun
pub none_coming : (clients : List ClientBoard) → NothingComes clients → (number : ℕ) → coming_at clients number ≡ no_footprint
none_coming clients nothing number = grind (arith, nothing)

-- the footprints of some clients are those at all places, where nothing of several beats has begun
pub are_all : (clients : List ClientBoard) → HaveAllSources clients → NothingComes clients → AreAll (footprint_at clients) (footprints_of clients)
are_all clients distinct nothing =
    record {
      each = λ test nobody none i. each_of test nobody clients none i.client i.source;
      none = λ test each.
          let nobody : test no_footprint ≡ false =
          ap (λ (o : Option ClientBoard). test (footprint_in (flights_in o).begun)) (sym (slice_get_past clients (length clients) (omega arith)))
          ∙ each (begun_at (length clients)) in
          none_of test nobody clients distinct
          (λ number source. each (record { client = number; source = source })) (λ number. ap test (none_coming clients nothing number) ∙ nobody);
    }
