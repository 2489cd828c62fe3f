-- A board and its history still match where only footprints change, and which requests are spoiled: beside one more request, and with an error response.
use Rattle.std.proofs.Common.{◌≡◌, ℕ, ◌<◌, zero, suc, Bool, true, false, ◌&&◌, not, List, [], ◌∷◌, drop, length, map, Option, Some, None, if◌then◌else◌, refl, sym, ◌∙◌, ap, subst, arith}
use Rattle.std.specs.Option.{option_map}
use Rattle.std.proofs.lemmas.Simd.{map-map}
use Rattle.bus_words.specs.Places.{AreDistinct}
use Rattle.responses.specs.Shown.{shown}
use Rattle.setups.specs.Setups.{SetupLists, faults_of}
use Rattle.serial_memory.specs.SerialMemory.{Memory}
use Rattle.tl_messages.specs.Requests.{HeldMessage}
use Rattle.scoreboard.specs.Boards.{ClientBoard, client_beside, hit_client}
use Rattle.scoreboard.specs.FailedBursts.{Span, hit, hit_flight, shares}
use Rattle.scoreboard.specs.Flights.{Flights, Footprint, InFlight, each_flight, is_of_source}
use Rattle.scoreboard.specs.Orders.{Entry, Order, has_ended, meaning_on}
use Rattle.scoreboard.specs.Races.{beside}
use Rattle.scoreboard.specs.RealTime.{acting_footprint, numbered, struck}
use Rattle.scoreboard.specs.declared.Errors.{Errors}
use Rattle.scoreboard.specs.declared.Errors.TheVariants.{Any}
use Rattle.scoreboard.proofs.MappedLists.{find_map}
use Rattle.scoreboard.proofs.real_time.Comings.{early_at, early_beside}
use Rattle.scoreboard.proofs.real_time.Entries.{place_of}
use Rattle.scoreboard.proofs.real_time.FlightLists.{HaveAllSources, client_was, sources_kept}
use Rattle.scoreboard.proofs.real_time.FlightPlaces.{at_beside, coming_beside}
use Rattle.scoreboard.proofs.real_time.Fronts.{changed_from, front_at}
use Rattle.scoreboard.proofs.real_time.Lengths.{some_beats}
use Rattle.scoreboard.proofs.real_time.Places.{HaveSources, Place, coming_at, flight_at, flight_in, flights_at}
use Rattle.value_orders.proofs.Matches.{Fits, IsBegun, IsFlying, IsOpenOf, IsThere, IsWholeAt, acting_as, apart_map, each_map_at, has_come, one_map}

-- ---- entries of which only changes whether they are spoiled

abbrev pub KeepsSpots : (Entry → Entry) → Type 0
KeepsSpots change = (entry : Entry) → change entry ≡ record entry { spoiled = (change entry).spoiled }

-- what isn't whole hasn't ended
pub begun_live : (setup : SetupLists) (errors : Errors) (clients : List ClientBoard) (entry : Entry) → IsBegun setup errors clients entry → has_ended entry ≡ false
begun_live setup errors clients entry is = grind (arith, is.none_came, some_beats entry.request)

module _ (setup : SetupLists) (errors : Errors) (clients next : List ClientBoard) (now : Order) (change : Entry → Entry) (keeps : KeepsSpots change) (fits : Fits setup errors clients now) where
  same_end : (entry : Entry) → has_ended (change entry) ≡ has_ended entry
  same_end entry = ap has_ended (keeps entry)

  same_place : (entry : Entry) → place_of (change entry) ≡ place_of entry
  same_place entry = ap place_of (keeps entry)

  same_whole : (entry : Entry) → (change entry).whole ≡ entry.whole
  same_whole entry = ap (λ (e : Entry). e.whole) (keeps entry)

  same_client : (entry : Entry) → (change entry).client ≡ entry.client
  same_client entry = ap (λ (e : Entry). e.client) (keeps entry)

  pub fits_spots : HaveAllSources next
      → ((k : ℕ) → k < length now → (numbered now k).whole ≡ true → has_ended (numbered now k) ≡ false → IsFlying setup errors clients (numbered now k)
      → IsFlying setup errors next (change (numbered now k)))
      → ((k : ℕ) → k < length now → (numbered now k).whole ≡ false → IsBegun setup errors clients (numbered now k) → IsBegun setup errors next (change (numbered now k)))
      → ((place : Place) (flight : InFlight) → flight_at next place ≡ Some flight → (was : InFlight) × (flight_at clients place ≡ Some was))
      → ((client : ℕ) (held : HeldMessage) → front_at next client ≡ Some held → (was : HeldMessage) × (front_at clients client ≡ Some was))
      → ((client : ℕ) → front_at next client ≡ None → early_at next client ≡ None)
      → Fits setup errors next (map change now)
  fits_spots sources flies begins flights fronts early =
      record {
        sources = sources;
        each = each_map_at (IsThere setup errors next) change now (λ k small.
            let entry = numbered now k in
            record {
              flies = λ whole live.
                  let was = sym (same_whole entry) ∙ whole in
                  let alive = sym (same_end entry) ∙ live in flies k small was alive ((fits.each k small).flies was alive);
              begun = λ unwhole. let was = sym (same_whole entry) ∙ unwhole in begins k small was ((fits.each k small).begun was);
            });
        apart = apart_map change now (λ i j first other live alive same.
            fits.apart i j first other (sym (same_end (numbered now i)) ∙ live) (sym (same_end (numbered now j)) ∙ alive)
            (sym (same_place (numbered now i)) ∙ same ∙ same_place (numbered now j)));
        flights = λ place flight is.
            one_map (IsWholeAt place) (IsWholeAt place) change now
            (λ k small at. (
              same_whole (numbered now k) ∙ at.0,
              record { live = same_end (numbered now k) ∙ at.1.live; there = same_place (numbered now k) ∙ at.1.there },
            )) (let was = flights place flight is in fits.flights place was.0 was.1);
        fronts = λ client held is.
            one_map (IsOpenOf client) (IsOpenOf client) change now
            (λ k small at. (same_whole (numbered now k) ∙ at.0, same_client (numbered now k) ∙ at.1))
            (let was = fronts client held is in fits.fronts client was.0 was.1);
        early = early;
      }

-- ---- where each footprint changes

-- what there was before a change
pub was_some : {X : Type 0} (change : X → X) (before : Option X) (after : X) → option_map change before ≡ Some after → (was : X) × (before ≡ Some was)
was_some change None after is = absurd (cc (is))
was_some change (Some was) after is = (was, refl)

-- a request in flight with another footprint
abbrev pub altered : (Footprint → Footprint) → InFlight → InFlight
altered alter flight = record flight { footprint = alter flight.footprint }

module _ (setup : SetupLists) (errors : Errors) (clients next : List ClientBoard) (now : Order) (change : Entry → Entry) (keeps : KeepsSpots change) (fits : Fits setup errors clients now)
    (alter : Footprint → Footprint) (sources : HaveAllSources next)
    (flights : (place : Place) → flight_at next place ≡ option_map (altered alter) (flight_at clients place))
    (coming : (client : ℕ) → coming_at next client ≡ alter (coming_at clients client))
    (fronts : (client : ℕ) → front_at next client ≡ front_at clients client) (early : (client : ℕ) → early_at next client ≡ early_at clients client)
    (acts : (entry : Entry) (footprint : Footprint) → has_ended entry ≡ false → footprint ≡ acting_as setup errors entry footprint.determined
    → alter footprint ≡ acting_as setup errors (change entry) (alter footprint).determined) where
  flying : (entry : Entry) → has_ended entry ≡ false → IsFlying setup errors clients entry → IsFlying setup errors next (change entry)
  flying entry live is =
      record {
        flight = altered alter is.flight;
        there = ap (flight_at next) (ap place_of (keeps entry)) ∙ flights (place_of entry) ∙ ap (option_map (altered alter)) is.there;
        source = is.source ∙ sym (ap (λ (e : Entry). e.request.source) (keeps entry));
        acts = acts entry is.flight.footprint live is.acts;
        made_of = is.made_of;
        left = is.left ∙ sym (ap (λ (e : Entry). drop e.came (shown e.request (meaning_on setup e.request is.made_of).reply)) (keeps entry));
      }

  beginning : (entry : Entry) → IsBegun setup errors clients entry → IsBegun setup errors next (change entry)
  beginning entry is =
      subst (IsBegun setup errors next) (sym (keeps entry))
      (record {
        held = is.held;
        front = fronts entry.client ∙ is.front;
        fields = is.fields;
        none_came = is.none_came;
        any = is.any;
        early = early entry.client ∙ is.early;
        replied = is.replied ∙ ap (has_come errors) (sym (early entry.client));
        acts = subst (λ (f : Footprint). f ≡ acting_as setup errors (record entry { spoiled = (change entry).spoiled }) f.determined) (sym (coming entry.client))
            (subst (λ (e : Entry). alter (coming_at clients entry.client) ≡ acting_as setup errors e (alter (coming_at clients entry.client)).determined) (keeps entry)
            (acts entry (coming_at clients entry.client) (begun_live setup errors clients entry is) is.acts));
      })

  pub fits_altered : Fits setup errors next (map change now)
  fits_altered =
      fits_spots setup errors clients next now change keeps fits sources (λ k small whole live is. flying (numbered now k) live is) (λ k small unwhole is. beginning (numbered now k) is)
      (λ place flight is. was_some (altered alter) (flight_at clients place) flight (sym (flights place) ∙ is))
      (λ client held is. (held, sym (fronts client) ∙ is))
      (λ client none. early client ∙ fits.early client (sym (fronts client) ∙ none))

-- ---- beside one more request

map_same : (now : Order) → map (λ (entry : Entry). entry) now ≡ now
map_same [] = refl
map_same (entry ∷ now) = ap (λ (rest : Order). entry ∷ rest) (map_same now)

pub front_kept : (footprint : Footprint) (clients : List ClientBoard) (number : ℕ) → front_at (map (client_beside footprint) clients) number ≡ front_at clients number
front_kept footprint [] number = refl
front_kept footprint (client ∷ clients) zero = refl
front_kept footprint (client ∷ clients) (suc number) = front_kept footprint clients number

pub fits_beside : (setup : SetupLists) (errors : Errors) (clients : List ClientBoard) (now : Order) (footprint : Footprint) → Fits setup errors clients now
    → Fits setup errors (map (client_beside footprint) clients) now
fits_beside setup errors clients now footprint fits =
    subst (Fits setup errors (map (client_beside footprint) clients)) (map_same now)
    (fits_altered setup errors clients (map (client_beside footprint) clients) now (λ entry. entry) (λ entry. refl) fits (λ mine. beside mine footprint)
    (λ number client is.
    let was = client_was footprint clients number client is in
    subst (λ (c : ClientBoard). HaveSources c.flights) was.2 (sources_kept footprint was.0.flights (fits.sources number was.0 was.1)))
    (at_beside footprint clients) (coming_beside footprint clients) (front_kept footprint clients) (early_beside footprint clients)
    (λ entry mine live is. ap (λ (f : Footprint). record f { determined = (beside mine footprint).determined }) is))

-- ---- with an error response

flights_hit : (span : Span) (clients : List ClientBoard) (number : ℕ) → flights_at (map (hit_client span) clients) number ≡ each_flight (hit_flight span) (flights_at clients number)
flights_hit span [] number = refl
flights_hit span (client ∷ clients) zero = refl
flights_hit span (client ∷ clients) (suc number) = flights_hit span clients number

flight_hit_in : (span : Span) (flights : Flights) (source : Option ℕ)
    → flight_in (each_flight (hit_flight span) flights) source ≡ option_map (hit_flight span) (flight_in flights source)
flight_hit_in span flights None = refl
flight_hit_in span flights (Some source) = find_map (is_of_source source) (hit_flight span) flights.due

flight_hit : (span : Span) (clients : List ClientBoard) (place : Place)
    → flight_at (map (hit_client span) clients) place ≡ option_map (hit_flight span) (flight_at clients place)
flight_hit span clients place =
    ap (λ (f : Flights). flight_in f place.source) (flights_hit span clients place.client) ∙ flight_hit_in span (flights_at clients place.client) place.source

coming_hit : (span : Span) (clients : List ClientBoard) (number : ℕ) → coming_at (map (hit_client span) clients) number ≡ hit span (coming_at clients number)
coming_hit span [] number = grind arith
coming_hit span (client ∷ clients) zero = refl
coming_hit span (client ∷ clients) (suc number) = coming_hit span clients number

early_hit : (span : Span) (clients : List ClientBoard) (number : ℕ) → early_at (map (hit_client span) clients) number ≡ early_at clients number
early_hit span [] number = refl
early_hit span (client ∷ clients) zero = refl
early_hit span (client ∷ clients) (suc number) = early_hit span clients number

front_hit : (span : Span) (clients : List ClientBoard) (number : ℕ) → front_at (map (hit_client span) clients) number ≡ front_at clients number
front_hit span [] number = refl
front_hit span (client ∷ clients) zero = refl
front_hit span (client ∷ clients) (suc number) = front_hit span clients number

-- each that shares a byte has failed
hit_acts : (setup : SetupLists) (memory : Memory) (span : Span) (entry : Entry) (footprint : Footprint) → memory.faults ≡ faults_of setup → memory.regions ≡ setup.regions
    → has_ended entry ≡ false → footprint ≡ acting_as setup Any entry footprint.determined
    → hit span footprint ≡ acting_as setup Any (struck memory span entry) (hit span footprint).determined
hit_acts setup memory span entry footprint faults regions live is = by_shares (shares span footprint) refl
  where
    acting : shares span (acting_footprint memory entry.request) ≡ shares span footprint
    acting = rw (faults, regions) (sym (ap (shares span) is))

    by_shares : (b : Bool) → shares span footprint ≡ b → hit span footprint ≡ acting_as setup Any (struck memory span entry) (hit span footprint).determined
    by_shares true shared =
        let its = acting ∙ shared in
        rw (shared, its, live) (ap (λ (f : Footprint). record f { failed = true; determined = λ x. false }) is)
    by_shares false none = let its = acting ∙ none in rw (none, its, live) is

struck_spots : (memory : Memory) (span : Span) → KeepsSpots (struck memory span)
struck_spots memory span entry = by_test (not (has_ended entry) && shares span (acting_footprint memory entry.request))
  where
    by_test : (b : Bool) → (if b then record entry { spoiled = true } else entry) ≡ record entry { spoiled = (if b then record entry { spoiled = true } else entry).spoiled }
    by_test true = refl
    by_test false = refl

pub fits_hit : (setup : SetupLists) (clients : List ClientBoard) (now : Order) (memory : Memory) (span : Span) → memory.faults ≡ faults_of setup
    → memory.regions ≡ setup.regions → Fits setup Any clients now → Fits setup Any (map (hit_client span) clients) (map (struck memory span) now)
fits_hit setup clients now memory span faults regions fits =
    fits_altered setup Any clients (map (hit_client span) clients) now (struck memory span) (struck_spots memory span) fits (hit span)
    (λ number client is.
    let was = changed_from (hit_client span) clients number client is in
    subst (λ (c : ClientBoard). HaveSources c.flights) was.2
    (subst AreDistinct (sym (map-map (λ (f : InFlight). f.source) (hit_flight span) was.0.flights.due)) (fits.sources number was.0 was.1)))
    (flight_hit span clients) (coming_hit span clients) (front_hit span clients) (early_hit span clients)
    (λ entry footprint live is. hit_acts setup memory span entry footprint faults regions live is)
