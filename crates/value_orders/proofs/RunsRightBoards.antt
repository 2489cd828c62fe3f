-- A board of real time beside one of acceptance order, in which what was observed is right: what each has in flight of a client, and what a right beat tells.
use Rattle.std.proofs.Common.{◌≡◌, ℕ, ◌==◌, ◌||◌, Bool, true, false, List, [], ◌∷◌, ◌++◌, map, Option, Some, None, if◌then◌else◌, refl, sym, ◌∙◌, ap, subst}
use Rattle.std.specs.Prelude.{is_some, slice_get}
use Rattle.std.specs.List.{find, list_any}
use Rattle.std.specs.Option.{option_map, option_or, option_to_list}
use Rattle.std.proofs.lemmas.Bool.{eq-eqb, or_left, or_right}
use Rattle.std.proofs.lemmas.Option.{slice_get-map}
use Rattle.setups.specs.Setups.{SetupLists}
use Rattle.tl_messages.specs.Requests.{HeldMessage, held_of, message_of}
use Rattle.tl_messages.specs.declared.ABeat.{ABeat}
use Rattle.tl_messages.specs.declared.DBeat.{DBeat}
use Rattle.scoreboard.specs.Boards.{Board, ClientBoard, d_wrong, from_zeros, told_to, wrong_at, wrong_beat, wrong_reply}
use Rattle.scoreboard.specs.Flights.{Flights, InFlight, begun_is_of, due_to, each_flight, is_busy, is_of_source, next_reply}
use Rattle.scoreboard.specs.Observed.{Observed}
use Rattle.scoreboard.specs.Orders.{Entry}
use Rattle.scoreboard.specs.Right.{IsFree, replies_to}
use Rattle.scoreboard.specs.Wider.{board_alone, client_alone, flight_alone}
use Rattle.scoreboard.specs.declared.Errors.{Errors}
use Rattle.scoreboard.specs.declared.ObservedBeat.TheVariants.{D}
use Rattle.scoreboard.specs.declared.Policy.TheVariants.{AcceptanceOrder}
use Rattle.scoreboard.proofs.acceptance_order.BoardOf.{IsBoardOf, IsClientOf}
use Rattle.scoreboard.proofs.acceptance_order.DueLists.{any_found}
use Rattle.scoreboard.proofs.acceptance_order.Fixed.{in_turn_alone}
use Rattle.scoreboard.proofs.acceptance_order.Owed.{flying, flying_of, left-free, right_next}
use Rattle.scoreboard.proofs.real_time.Entries.{place_of}
use Rattle.scoreboard.proofs.real_time.FlightsAlone.{next_alone}
use Rattle.scoreboard.proofs.real_time.Places.{flight_in, flights_in}
use Rattle.scoreboard.proofs.real_time.WiderRuns.{IsOn}
use Rattle.value_orders.proofs.Matches.{IsFlying}

-- ---- requests in flight but for their footprints

find_alone : (source : ℕ) (flights : List InFlight) → find (is_of_source source) (map flight_alone flights) ≡ option_map flight_alone (find (is_of_source source) flights)
find_alone source [] = refl
find_alone source (flight ∷ flights) = by_test (is_of_source source flight) (find_alone source flights)
  where
    by_test : (b : Bool) → find (is_of_source source) (map flight_alone flights) ≡ option_map flight_alone (find (is_of_source source) flights)
        → (if b then Some (flight_alone flight) else find (is_of_source source) (map flight_alone flights))
        ≡ option_map flight_alone (if b then Some flight else find (is_of_source source) flights)
    by_test true rest = refl
    by_test false rest = rest

flying_alone : (flights : Flights) (source : ℕ) → flying_of (each_flight flight_alone flights) source ≡ option_map flight_alone (flying_of flights source)
flying_alone flights source =
    ap (find (is_of_source source)) (by_begun flights.begun) ∙ find_alone source (flying flights)
  where
    by_begun : (begun : Option InFlight) → option_to_list (option_map flight_alone begun) ++ map flight_alone flights.due ≡ map flight_alone (option_to_list begun ++ flights.due)
    by_begun None = refl
    by_begun (Some flight) = refl

any_alone : (source : ℕ) (flights : List InFlight) → list_any (is_of_source source) (map flight_alone flights) ≡ list_any (is_of_source source) flights
any_alone source [] = refl
any_alone source (flight ∷ flights) = ap (λ (b : Bool). is_of_source source flight || b) (any_alone source flights)

pub busy_alone : (flights : Flights) (source : ℕ) → is_busy AcceptanceOrder (each_flight flight_alone flights) source ≡ is_busy AcceptanceOrder flights source
busy_alone flights source = ap (λ (b : Bool). b || begun_is_of source (option_map flight_alone flights.begun)) (any_alone source flights.due) ∙ by_begun flights.begun
  where
    by_begun : (begun : Option InFlight) → (list_any (is_of_source source) flights.due || begun_is_of source (option_map flight_alone begun))
        ≡ (list_any (is_of_source source) flights.due || begun_is_of source begun)
    by_begun None = refl
    by_begun (Some flight) = refl

-- what comes next is what flies of its source
pub next_flies : (flights : Flights) (source : ℕ) (flight : InFlight) → next_reply flights source ≡ Some flight → flight.source ≡ source → flying_of flights source ≡ Some flight
next_flies flights source flight next own = by_begun flights.begun next
  where
    by_begun : (begun : Option InFlight) → option_or begun (due_to flights source) ≡ Some flight → find (is_of_source source) (option_to_list begun ++ flights.due) ≡ Some flight
    by_begun None is = is
    by_begun (Some first) is =
        let same : first ≡ flight = cc (is) in
        let test : is_of_source source first ≡ true = eq-eqb first.source source (ap (λ (f : InFlight). f.source) same ∙ own) in
        rw test is

-- ---- a client on both boards

pub record IsPair (board compared : Board) (number : ℕ) (found : ClientBoard) : Type 0 where
  pub other : ClientBoard
  pub there : slice_get compared.clients number ≡ Some other
  pub alone : client_alone found ≡ client_alone other

pub is_pair : (board compared : Board) (number : ℕ) (found : ClientBoard) → IsOn compared board → slice_get board.clients number ≡ Some found
    → IsPair board compared number found
is_pair board compared number found on there = by_other (slice_get compared.clients number) refl
  where
    both : option_map client_alone (slice_get compared.clients number) ≡ Some (client_alone found)
    both =
        sym (slice_get-map client_alone compared.clients number) ∙ ap (λ (b : Board). slice_get b.clients number) (sym on.holds)
        ∙ slice_get-map client_alone board.clients number ∙ ap (option_map client_alone) there

    by_other : (o : Option ClientBoard) → slice_get compared.clients number ≡ o → IsPair board compared number found
    by_other None none = absurd (cc (sym both ∙ ap (option_map client_alone) none))
    by_other (Some other) some =
        let same : Some (client_alone other) ≡ Some (client_alone found) = sym (ap (option_map client_alone) some) ∙ both in
        record { other = other; there = some; alone = cc (same) }

-- what flies on one flies on the other
pub flies_there : (found other : ClientBoard) (source : ℕ) (flight : InFlight) → client_alone found ≡ client_alone other → flying_of found.flights source ≡ Some flight
    → (its : InFlight) × (flying_of other.flights source ≡ Some its) × (its.beats ≡ flight.beats)
flies_there found other source flight alone flies = by_other (flying_of other.flights source) refl
  where
    both : option_map flight_alone (flying_of other.flights source) ≡ Some (flight_alone flight)
    both =
        sym (flying_alone other.flights source) ∙ ap (λ (c : ClientBoard). flying_of c.flights source) (sym alone)
        ∙ flying_alone found.flights source ∙ ap (option_map flight_alone) flies

    by_other : (o : Option InFlight) → flying_of other.flights source ≡ o → (its : InFlight) × (flying_of other.flights source ≡ Some its) × (its.beats ≡ flight.beats)
    by_other None none = absurd (cc (sym both ∙ ap (option_map flight_alone) none))
    by_other (Some its) some =
        let same : Some (flight_alone its) ≡ Some (flight_alone flight) = sym (ap (option_map flight_alone) some) ∙ both in
        let equal : flight_alone its ≡ flight_alone flight = cc (same) in
        (its, some, ap (λ (f : InFlight). f.beats) equal)

pub busy_there : (found other : ClientBoard) (source : ℕ) → client_alone found ≡ client_alone other
    → is_busy AcceptanceOrder found.flights source ≡ is_busy AcceptanceOrder other.flights source
busy_there found other source alone =
    sym (busy_alone found.flights source) ∙ ap (λ (c : ClientBoard). is_busy AcceptanceOrder c.flights source) alone ∙ busy_alone other.flights source

-- a source is busy to which a request is in flight
pub busy_flying : (setup : SetupLists) (errors : Errors) (clients : List ClientBoard) (entry : Entry) (found : ClientBoard) → IsFlying setup errors clients entry
    → slice_get clients entry.client ≡ Some found → is_busy AcceptanceOrder found.flights entry.request.source ≡ true
busy_flying setup errors clients entry found is there = by_came (entry.came == 0) (sym (ap (λ (o : Option ClientBoard). flight_in_of o) there) ∙ is.there)
  where
    flight_in_of : Option ClientBoard → Option InFlight
    flight_in_of o = flight_in (flights_in o) (place_of entry).source

    own : (is.flight.source == entry.request.source) ≡ true
    own = eq-eqb is.flight.source entry.request.source is.source

    by_came : (b : Bool) → flight_in found.flights (if b then Some entry.request.source else None) ≡ Some is.flight
        → is_busy AcceptanceOrder found.flights entry.request.source ≡ true
    by_came true due =
        or_left (list_any (is_of_source entry.request.source) found.flights.due) (begun_is_of entry.request.source found.flights.begun)
        (any_found (is_of_source entry.request.source) found.flights.due ∙ ap (λ (o : Option InFlight). is_some o) due)
    by_came false begun =
        or_right (list_any (is_of_source entry.request.source) found.flights.due) (begun_is_of entry.request.source found.flights.begun)
        (ap (begun_is_of entry.request.source) begun ∙ own)

-- the source of a message that has begun isn't busy
pub front_free : (setup : SetupLists) (observed : Observed) (compared : Board) (number : ℕ) (other : ClientBoard) (held : HeldMessage) → IsBoardOf (from_zeros setup) observed compared
    → slice_get compared.clients number ≡ Some other → other.front ≡ Some held → is_busy AcceptanceOrder other.flights held.source ≡ false
front_free setup observed compared number other held of there front = by_begun (observed.begun number) refl (of.right.free number)
  where
    client : IsClientOf (from_zeros setup) observed number other
    client = of.clients number other there

    by_begun : (beats : List ABeat) → observed.begun number ≡ beats → IsFree (from_zeros setup) observed number beats
        → is_busy AcceptanceOrder other.flights held.source ≡ false
    by_begun [] is free = absurd (cc (sym front ∙ client.front ∙ ap (held_of number) is))
    by_begun (first ∷ rest) is free =
        let same : Some (message_of number first rest) ≡ Some held = sym (client.front ∙ ap (held_of number) is) ∙ front in
        let own : first.source ≡ held.source = ap (λ (o : Option HeldMessage). source_in o) same in
        subst (λ n. is_busy AcceptanceOrder other.flights n ≡ false) own
        (left-free (replies_to (from_zeros setup) observed number first.source) (observed.told number first.source) other.flights first.source client.dues (client.owed first.source) free)
      where
        source_in : Option HeldMessage → ℕ
        source_in None = 0
        source_in (Some message) = message.source

-- ---- a right beat on channel D

pub record IsRightNext (board : Board) (client : ℕ) (beat : DBeat) : Type 0 where
  pub found : ClientBoard
  pub there : slice_get board.clients client ≡ Some found
  pub flight : InFlight
  pub next : next_reply found.flights beat.source ≡ Some flight
  pub rest : List DBeat
  pub beats : flight.beats ≡ beat ∷ rest
  pub none : wrong_beat flight.beats beat ≡ None

pub right_is_next : (board : Board) (client : ℕ) (beat : DBeat) → wrong_at AcceptanceOrder (board_alone board) (D client beat) ≡ None → IsRightNext board client beat
right_is_next board client beat none = by_client (slice_get board.clients client) refl (ap (λ (o : Option ClientBoard). d_wrong AcceptanceOrder o beat) (sym (slice_get-map client_alone board.clients client)) ∙ none)
  where
    by_next : (found : ClientBoard) → slice_get board.clients client ≡ Some found → (o : Option InFlight) → next_reply found.flights beat.source ≡ o
        → wrong_reply AcceptanceOrder (told_to (client_alone found)) (option_map flight_alone o) beat ≡ None → IsRightNext board client beat
    by_next found there None nothing right = absurd (cc (right))
    by_next found there (Some flight) next right =
        let sound : wrong_beat flight.beats beat ≡ None = sym (in_turn_alone flight.beats beat) ∙ right in
        let first = right_next flight.beats beat sound in
        record { found = found; there = there; flight = flight; next = next; rest = first.0; beats = first.1; none = sound }

    by_client : (o : Option ClientBoard) → slice_get board.clients client ≡ o → d_wrong AcceptanceOrder (option_map client_alone o) beat ≡ None → IsRightNext board client beat
    by_client None nobody right = absurd (cc (right))
    by_client (Some found) there right =
        by_next found there (next_reply found.flights beat.source) refl
        (ap (λ (o : Option InFlight). wrong_reply AcceptanceOrder (told_to (client_alone found)) o beat) (sym (next_alone found.flights beat.source)) ∙ right)
