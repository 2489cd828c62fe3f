-- The sources of the requests to which a reply is due: no two are the same, so that they are as many as there are sources, or fewer.
use Rattle.std.proofs.Common.{◌≡◌, ◌≢◌, ◌<◌, ◌≤◌, ◌==◌, ℕ, Bool, false, true, List, [], ◌∷◌, ◌++◌, map, length, drop, get_or, refl, take, sym, arith, ◌∙◌, ap}
use Rattle.std.specs.Prelude.{Option, Some, None, is_some}
use Rattle.std.specs.List.{AllByRecursion, find, list_any, position, remove}
use Rattle.std.specs.Option.{option_map, option_or}
use Rattle.std.proofs.Math.Seq.{take_at}
use Rattle.std.proofs.lemmas.Bool.{eqb-false, or_parts}
use Rattle.std.proofs.lemmas.List.{get_or-map, length-append, length-map, map-append}
use Rattle.std.proofs.lemmas.Simd.{map-map}
use Rattle.bus_words.specs.Places.{without_first}
use Rattle.bus_words.proofs.DistinctPlaces.{distinct-append, distinct-remove}
use Rattle.bus_words.proofs.FewDistinct.{few_below}
use Rattle.bus_words.proofs.FirstPlaces.{find-first, find-none, position_is_first, without_first-first}
use Rattle.bus_words.proofs.MappedPlaces.{map-remove, position_map}
use Rattle.bus_words.proofs.PlaceChanges.{all-append, all-remove}
use Rattle.tl_messages.specs.declared.DBeat.{DBeat}
use Rattle.scoreboard.specs.Flights.{Flights, Footprint, InFlight, begun_for, flights_after, is_of_source}
use Rattle.scoreboard.specs.InsideBoards.{FlightState, FlightsState, flight_changed, flight_of}
use Rattle.scoreboard.specs.Replies.{AreDue, DuesHaveRoom, due_flight, due_flights}
use Rattle.scoreboard.specs.declared.flights.Due.{Due}

-- ---- those that are due

few_due : (room : ℕ) (dues : List Due) → AreDue room dues → length dues ≤ 256
few_due room dues are = rw (sym (length-map dues (λ due. due.source))) (few_below 256 (map (λ due. due.source) dues) are.distinct are.bytes)

-- none is of a source to which none is due
others_due : (source : ℕ) (replies : ℕ → List DBeat) (dues : List Due) → list_any (is_of_source source) (due_flights replies dues) ≡ false → AllByRecursion (λ m. m ≢ source) (map (λ due. due.source) dues)
others_due source replies [] none = tt
others_due source replies (due ∷ dues) none =
    let parts = or_parts (due.source == source) (list_any (is_of_source source) (due_flights replies dues)) none in (eqb-false due.source source parts.0, others_due source replies dues parts.1)

-- with one more of another source, of which there are so many at most
pub record AreJoined (room : ℕ) (replies : ℕ → List DBeat) (dues : List Due) (due : Due) : Type 0 where
  pub all : AreDue room (dues ++ due ∷ [])
  pub few : length dues < 256
  pub free : list_any (is_of_source due.source) (due_flights replies dues) ≡ false

pub due_more : (old : FlightsState) (room : ℕ) (replies : ℕ → List DBeat) (dues : List Due) (begun : Option FlightState) (due : Due)
    → record { room = room; due = map (due_flight replies) dues; begun = begun } ≡ old → AreDue room dues → list_any (is_of_source due.source) (map flight_of old.due) ≡ false
    → length due.footprint.determined ≡ old.room → due.source < 256 → AreJoined room replies dues due
due_more old room replies dues begun due is are none wide low =
    let sources = map-append (λ (due : Due). due.source) dues (due ∷ []) in
    let free = ap (λ (flights : FlightsState). list_any (is_of_source due.source) (map flight_of flights.due)) is ∙ none in
    let all : AreDue room (dues ++ due ∷ []) = record {
      rooms = all-append (λ (due : Due). length due.footprint.determined ≡ room) dues due are.rooms (wide ∙ sym (ap (λ (flights : FlightsState). flights.room) is));
      bytes = rw sources (all-append (λ source. source < 256) (map (λ due. due.source) dues) due.source are.bytes low);
      distinct = rw sources (distinct-append due.source (map (λ due. due.source) dues) are.distinct (others_due due.source replies dues free));
    } in
    record { all = all; few = omega (arith, few_due room (dues ++ due ∷ []) all, length-append dues (due ∷ [])); free = free }

-- one fewer
pub due_without : (room : ℕ) (dues : List Due) (place : ℕ) → AreDue room dues → AreDue room (remove dues place)
due_without room dues place are =
    let sources = map-remove (λ (due : Due). due.source) dues place in
    record {
      rooms = all-remove (λ (due : Due). length due.footprint.determined ≡ room) dues place are.rooms;
      bytes = rw sources (all-remove (λ source. source < 256) (map (λ due. due.source) dues) place are.bytes);
      distinct = rw sources (distinct-remove (map (λ due. due.source) dues) place are.distinct);
    }

sources_of : (replies : ℕ → List DBeat) (dues : List Due) → map (λ flight. flight.source) (due_flights replies dues) ≡ map (λ due. due.source) dues
sources_of replies dues = map-map (λ flight. flight.source) flight_of (map (due_flight replies) dues) ∙ map-map (λ flight. flight.source) (due_flight replies) dues

-- when the footprint of each has changed
pub due_changed : (room : ℕ) (replies : ℕ → List DBeat) (old new : List Due) (change : Footprint → Footprint) → AreDue room old
    → due_flights replies new ≡ map (flight_changed change) (due_flights replies old) → (DuesHaveRoom room old → DuesHaveRoom room new) → AreDue room new
due_changed room replies old new change are given rooms =
    let source = λ (flight : InFlight). flight.source in
    let same = sym (sources_of replies new) ∙ ap (map source) given ∙ map-map source (flight_changed change) (due_flights replies old) ∙ sources_of replies old in
    record { rooms = rooms are.rooms; bytes = rw same are.bytes; distinct = rw same are.distinct }

-- the same of what these are written back into
pub record AreStill (room : ℕ) (dues held : List Due) : Type 0 where
  pub all : AreDue room held
  pub many : length held ≡ length dues

pub still_due : (room : ℕ) (replies : ℕ → List DBeat) (dues : List Due) (len : ℕ) (old new : List Due) (change : Footprint → Footprint) → len ≡ length dues → length new ≡ length old → old ≡ dues → AreDue room dues
    → due_flights replies new ≡ map (flight_changed change) (due_flights replies old) → (DuesHaveRoom room old → DuesHaveRoom room new) → AreStill room dues (take len (new ++ drop (length new) dues))
still_due room replies dues len old new change long same is are given rooms =
    let many : length new ≡ len = same ∙ ap length is ∙ sym long in
    let back = take_at new (drop (length new) dues) len many in
    record { all = rw back (due_changed room replies old new change (rw is are) given rooms); many = ap length back ∙ many ∙ long }

-- ---- the one of a source

abbrev pub flights_with : List InFlight → Option InFlight → Flights
flights_with due begun = record { due = due; begun = begun }

-- whether there is one is whether there is a first
pub any_placed : {X : Type 0} (p : X → Bool) (xs : List X) → is_some (position p xs) ≡ list_any p xs
any_placed p [] = refl
any_placed p (x ∷ xs) = grind (arith, any_placed p xs)

none_out : {X : Type 0} (p : X → Bool) (xs : List X) → position p xs ≡ None → without_first p xs ≡ xs
none_out p [] none = refl
none_out p (x ∷ xs) none = grind (arith, none_out p xs)

module _ (source : ℕ) (replies : ℕ → List DBeat) (dues : List Due) where
  -- its place among those that are held
  pub placed : position (is_of_source source) (due_flights replies dues) ≡ position (λ due. due.source == source) dues
  placed = position_map flight_of (is_of_source source) (map (due_flight replies) dues) ∙ position_map (due_flight replies) (λ flight. flight.source == source) dues

  pub none_due : position (λ due. due.source == source) dues ≡ None → find (is_of_source source) (due_flights replies dues) ≡ None
  none_due missing = find-none (is_of_source source) (due_flights replies dues) (placed ∙ missing)

  pub due_at : (place : ℕ) (due : Due) → position (λ due. due.source == source) dues ≡ Some place → due ≡ get_or dues place due
      → find (is_of_source source) (due_flights replies dues) ≡ Some (flight_of (due_flight replies due))
  due_at place due found is =
      let at = position_is_first (is_of_source source) (due_flights replies dues) place (placed ∙ found) in
      let within : place < length dues = (position_is_first (λ (due : Due). due.source == source) dues place found).within in
      let flight = due_flight replies due in
      let held : place < length (map (due_flight replies) dues) = rw (length-map dues (due_flight replies)) within in
      find-first (is_of_source source) (due_flights replies dues) place (flight_of flight) at
      ∙ ap Some (get_or-map flight_of (map (due_flight replies) dues) place flight (flight_of flight) held ∙ ap flight_of (get_or-map (due_flight replies) dues place due flight within ∙ ap (due_flight replies) (sym is)))

  -- it begins
  pub begins : (place : ℕ) (due : Due) → position (λ due. due.source == source) dues ≡ Some place → due ≡ get_or dues place due
      → flights_with (due_flights replies (remove dues place)) (Some (flight_of (due_flight replies due)))
      ≡ flights_with (without_first (is_of_source source) (due_flights replies dues)) (find (is_of_source source) (due_flights replies dues))
  begins place due found is =
      let at = position_is_first (is_of_source source) (due_flights replies dues) place (placed ∙ found) in
      rw (without_first-first (is_of_source source) (due_flights replies dues) place at, map-remove (due_flight replies) dues place, map-remove flight_of (map (due_flight replies) dues) place, due_at place due found is) refl

  -- there is none
  pub begins_none : position (λ due. due.source == source) dues ≡ None
      → flights_with (due_flights replies dues) None ≡ flights_with (without_first (is_of_source source) (due_flights replies dues)) (find (is_of_source source) (due_flights replies dues))
  begins_none missing = rw (none_out (is_of_source source) (due_flights replies dues) (placed ∙ missing), none_due missing) refl

-- ---- the one whose reply has its next beat in one of a source

-- where none had begun it is the one that is due
pub begun_due : (due : List InFlight) (begun : Option FlightState) (source : ℕ) → is_some begun ≡ false
    → flights_with (without_first (is_of_source source) due) (find (is_of_source source) due) ≡ begun_for (flights_with due (option_map flight_of begun)) source
begun_due due None source none = refl
begun_due due (Some flight) source none = absurd (cc (none))

-- and one that had begun stays
pub begun_still : (due : List InFlight) (begun : Option FlightState) (source : ℕ) → is_some begun ≡ true
    → flights_with due (option_map flight_of begun) ≡ begun_for (flights_with due (option_map flight_of begun)) source
begun_still due None source some = absurd (cc (some))
begun_still due (Some flight) source some = refl

not_found_out : {X : Type 0} (p : X → Bool) (xs : List X) → find p xs ≡ None → without_first p xs ≡ xs
not_found_out p [] none = refl
not_found_out p (x ∷ xs) none = grind (arith, not_found_out p xs)

-- where there is none all stay as they were
pub none_after : (due : List InFlight) (begun : Option InFlight) (source : ℕ) → option_or begun (find (is_of_source source) due) ≡ None
    → flights_after (flights_with due begun) source ≡ flights_with due begun
none_after due None source none = rw none (ap (λ left. flights_with left None) (not_found_out (is_of_source source) due none))
none_after due (Some flight) source none = absurd (cc (none))
