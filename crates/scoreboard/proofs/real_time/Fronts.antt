-- What each client has begun, along lists of beats: it came of beats that begin a message, and its source is one to which no reply waits.
use Rattle.std.proofs.Common.{◌≡◌, ℕ, zero, suc, ◌==◌, Bool, true, false, List, [], ◌∷◌, map, set, Option, Some, None, IfSome, Result, Ok, Err, inl, inr, if◌then◌else◌, refl, ◌∙◌, ap, subst}
use Rattle.std.specs.Prelude.{is_some, slice_get}
use Rattle.std.specs.List.{list_any}
use Rattle.std.specs.Option.{option_map}
use Rattle.std.proofs.lemmas.Bool.{cases_eq, eq-eqb, ne_eqb}
use Rattle.std.proofs.lemmas.Option.{IfSome_then, slice_get-map, slice_get_within}
use Rattle.bus_words.proofs.StoredPlaces.{get_set, get_set-other}
use Rattle.tl_messages.specs.Requests.{HeldMessage, WholeRequest, request_of}
use Rattle.tl_messages.specs.declared.ABeat.{ABeat}
use Rattle.tl_messages.specs.declared.DBeat.{DBeat}
use Rattle.tl_checker.specs.Ports.{joined}
use Rattle.tl_checker.specs.declared.Progress.{Progress}
use Rattle.tl_checker.specs.declared.Progress.TheVariants.{More, Whole}
use Rattle.tl_checker.specs.declared.TlRule.{TlRule}
use Rattle.setups.specs.Setups.{SetupLists}
use Rattle.scoreboard.specs.AxiPorts.{port_after}
use Rattle.scoreboard.specs.Boards.{Board, ClientBoard, after_a, after_d, after_seen, answer_to, answered_on, client_after, client_beside, client_cut, coming_on, early_due, flight_for, has_replied, hit_client, hit_on, is_spoiled, joining_on, more_on, opening_board, whole_on, with_accepted, with_client, with_whole}
use Rattle.scoreboard.specs.FailedBursts.{Span, failed_span, hit_flight}
use Rattle.scoreboard.specs.Flights.{Footprint, InFlight, cut_short, flights_after, is_of_source}
use Rattle.scoreboard.specs.InsideBoards.{front_after}
use Rattle.scoreboard.specs.Races.{flight_beside, unless_failed}
use Rattle.scoreboard.specs.declared.ObservedBeat.{ObservedBeat}
use Rattle.scoreboard.specs.declared.ObservedBeat.TheVariants.{A, D, Axi as OnAxi, Drained}
use Rattle.scoreboard.specs.declared.Policy.TheVariants.{RealTime}
use Rattle.scoreboard.proofs.MappedLists.{any_map}
use Rattle.scoreboard.proofs.real_time.CheckedRequests.{IsFrontRight, front_next, front_none}
use Rattle.scoreboard.proofs.real_time.Explained.{each_client, opening_at}
use Rattle.scoreboard.proofs.real_time.FlightLists.{client_was}
use Rattle.scoreboard.proofs.real_time.ReplySeen.{free_after}

-- those of some clients
abbrev pub AreFronts : List ClientBoard → Type 0
AreFronts clients = (number : ℕ) (client : ClientBoard) → slice_get clients number ≡ Some client → IsFrontRight client

-- beside a request that joins those in flight, each client is where it was
pub beside_at : (footprint : Footprint) (clients : List ClientBoard) (number : ℕ) (client : ClientBoard) → slice_get clients number ≡ Some client
    → slice_get (map (client_beside footprint) clients) number ≡ Some (client_beside footprint client)
beside_at footprint clients number client there =
    slice_get-map (client_beside footprint) clients number ∙ ap (option_map (client_beside footprint)) there

-- and its front is right
fronts_beside : (footprint : Footprint) (clients : List ClientBoard) → AreFronts clients → AreFronts (map (client_beside footprint) clients)
fronts_beside footprint clients are number client is =
    let was = client_was footprint clients number client is in
    let right = are number was.0 was.1 in
    subst IsFrontRight was.2 (record {
      heard = right.heard;
      free = IfSome_then was.0.front right.free (λ held free. any_map (is_of_source held.source) (flight_beside footprint) was.0.flights.due ∙ free);
    })

-- where a request begins, or goes on
fronts_more : (board : Board) (number : ℕ) (client : ClientBoard) (q : WholeRequest) (begun : Bool) → slice_get board.clients number ≡ Some client
    → AreFronts board.clients → AreFronts (more_on board number client q begun).clients
fronts_more board number client q true there are =
    let right = are number client there in
    each_client IsFrontRight board.clients number client (record client { coming = unless_failed (is_spoiled board.errors q) client.coming }) there are
    (record { heard = right.heard; free = right.free })
fronts_more board number client q false there are =
    let footprint = joining_on board q in
    let right = fronts_beside footprint board.clients are number (client_beside footprint client) (beside_at footprint board.clients number client there) in
    each_client IsFrontRight (map (client_beside footprint) board.clients) number (client_beside footprint client)
    (record (client_beside footprint client) { coming = footprint; early = early_due board.errors q }) (beside_at footprint board.clients number client there)
    (fronts_beside footprint board.clients are) (record { heard = right.heard; free = right.free })

-- a client whose message is whole has begun none
pub whole_front : (replied : Bool) (flight : InFlight) (client : ClientBoard) → (with_whole replied flight client).front ≡ None
whole_front true flight client = refl
whole_front false flight client = refl

-- where it is whole
fronts_whole : (board : Board) (number : ℕ) (client : ClientBoard) (q : WholeRequest) (begun : Bool) → slice_get board.clients number ≡ Some client
    → AreFronts board.clients → AreFronts (whole_on board number client q begun).clients
fronts_whole board number client q true there are =
    let flight = flight_for board.memory (coming_on board q client.coming) q in
    let changed = with_whole (has_replied board.errors client) flight client in
    each_client IsFrontRight board.clients number client changed there are (front_none changed (whole_front (has_replied board.errors client) flight client))
fronts_whole board number client q false there are =
    let footprint = joining_on board q in
    let changed = with_accepted (flight_for board.memory footprint q) (client_beside footprint client) in
    each_client IsFrontRight (map (client_beside footprint) board.clients) number (client_beside footprint client) changed
    (beside_at footprint board.clients number client there) (fronts_beside footprint board.clients are) (front_none changed refl)

-- with a beat on channel A
fronts_request : (board : Board) (number : ℕ) (beat : ABeat) → AreFronts board.clients
    → AreFronts (after_a RealTime board number (slice_get board.clients number) beat).clients
fronts_request board number beat are = by_client (slice_get board.clients number) refl
  where
    by_answer : (client : ClientBoard) (answer : Result Progress TlRule) → slice_get board.clients number ≡ Some client
        → answer_to RealTime client beat ≡ answer
        → AreFronts (answered_on RealTime board number client (joined client.limits client.front beat) answer).clients
    by_answer client (Err rule) there is = are
    by_answer client (Ok More) there is =
        let message = joined client.limits client.front beat in
        let continued = record client { front = Some message } in
        fronts_more (with_client number continued board) number continued (request_of message) (is_some client.front)
        (get_set board.clients number continued (slice_get_within board.clients number client there))
        (each_client IsFrontRight board.clients number client continued there are (front_next client beat (are number client there) is))
    by_answer client (Ok Whole) there is =
        fronts_whole board number client (request_of (joined client.limits client.front beat)) (is_some client.front) there are

    by_client : (found : Option ClientBoard) → slice_get board.clients number ≡ found → AreFronts (after_a RealTime board number found beat).clients
    by_client None there = are
    by_client (Some client) there = by_answer client (answer_to RealTime client beat) there refl

-- with a beat on channel D
fronts_reply : (board : Board) (number : ℕ) (beat : DBeat) → AreFronts board.clients
    → AreFronts (after_d board number (slice_get board.clients number) beat).clients
fronts_reply board number beat are = by_client (slice_get board.clients number) refl
  where
    still : (client : ClientBoard) (o : Option HeldMessage) → IfSome o (λ held. list_any (is_of_source held.source) client.flights.due ≡ false)
        → IfSome o (λ held. list_any (is_of_source held.source) (flights_after (cut_short client.flights beat.source) beat.source).due ≡ false)
    still client None free = tt
    still client (Some held) free = free_after beat.source (cut_short client.flights beat.source) held.source free

    by_client : (found : Option ClientBoard) → slice_get board.clients number ≡ found → AreFronts (after_d board number found beat).clients
    by_client None there = are
    by_client (Some client) there =
        let right = are number client there in
        each_client IsFrontRight board.clients number client (client_after beat (client_cut beat.source client)) there are
        (record { heard = right.heard; free = still client client.front right.free })

-- ---- an error response

-- each client that a change leaves was one before
pub changed_from : (change : ClientBoard → ClientBoard) (clients : List ClientBoard) (number : ℕ) (client : ClientBoard) → slice_get (map change clients) number ≡ Some client
    → (was : ClientBoard) × (slice_get clients number ≡ Some was) × (change was ≡ client)
changed_from change [] number client is = absurd (cc (is))
changed_from change (first ∷ clients) zero client is = (first, refl, cc (is))
changed_from change (first ∷ clients) (suc number) client is = changed_from change clients number client is

fronts_hit : (span : Option Span) (board : Board) → AreFronts board.clients → AreFronts (hit_on span board).clients
fronts_hit None board are number client is = are number client is
fronts_hit (Some span) board are number client is =
    let was = changed_from (hit_client span) board.clients number client is in
    let right = are number was.0 was.1 in
    subst IsFrontRight was.2 (record {
      heard = right.heard;
      free = IfSome_then was.0.front right.free (λ held free. any_map (is_of_source held.source) (hit_flight span) was.0.flights.due ∙ free);
    })

-- with any beat
pub fronts_next : (board : Board) (seen : ObservedBeat) → AreFronts board.clients → AreFronts (after_seen RealTime board seen).clients
fronts_next board (A number beat) are = fronts_request board number beat are
fronts_next board (D number beat) are = fronts_reply board number beat are
fronts_next board (OnAxi beat) are = fronts_hit (failed_span board.errors board.axi beat) (record board { axi = port_after RealTime board.axi beat }) are
fronts_next board Drained are = are

-- at the start nothing has begun
pub fronts_opening : (setup : SetupLists) → AreFronts (opening_board setup).clients
fronts_opening setup number client is =
    let found = opening_at setup.config 0 setup.config.clients number client is in front_none client (ap (λ (c : ClientBoard). c.front) found.1)

-- ---- what a client has begun, by its number

-- it is nothing where there is no such client
abbrev pub front_of : Option ClientBoard → Option HeldMessage
front_of None = None
front_of (Some client) = client.front

abbrev pub front_at : List ClientBoard → ℕ → Option HeldMessage
front_at clients number = front_of (slice_get clients number)

-- one client changes
front_set : (clients : List ClientBoard) (number other : ℕ) (old changed : ClientBoard) → slice_get clients number ≡ Some old
    → front_at (set clients number changed) other ≡ (if other == number then changed.front else front_at clients other)
front_set clients number other old changed there =
    elim (cases_eq other number) [
      | inl same ↦ rw (same, eq-eqb number number refl, get_set clients number changed (slice_get_within clients number old there)) refl
      | inr differ ↦ rw (get_set-other clients number other changed differ, ne_eqb other number differ) refl
    ]

-- a client keeps what it has begun
front_kept : (clients : List ClientBoard) (number other : ℕ) (old changed : ClientBoard) → slice_get clients number ≡ Some old → changed.front ≡ old.front
    → front_at (set clients number changed) other ≡ front_at clients other
front_kept clients number other old changed there same =
    elim (cases_eq other number) [
      | inl this ↦ rw (this, get_set clients number changed (slice_get_within clients number old there), there, same) refl
      | inr differ ↦ rw (get_set-other clients number other changed differ) refl
    ]

-- beside a request all do
front_beside : (footprint : Footprint) (clients : List ClientBoard) (number : ℕ)
    → front_at (map (client_beside footprint) clients) number ≡ front_at clients number
front_beside footprint [] number = refl
front_beside footprint (client ∷ clients) zero = refl
front_beside footprint (client ∷ clients) (suc number) = front_beside footprint clients number

front_more : (board : Board) (number other : ℕ) (client : ClientBoard) (q : WholeRequest) (begun : Bool) → slice_get board.clients number ≡ Some client
    → front_at (more_on board number client q begun).clients other ≡ front_at board.clients other
front_more board number other client q true there =
    front_kept board.clients number other client (record client { coming = unless_failed (is_spoiled board.errors q) client.coming }) there refl
front_more board number other client q false there =
    let footprint = joining_on board q in
    front_kept (map (client_beside footprint) board.clients) number other (client_beside footprint client)
    (record (client_beside footprint client) { coming = footprint; early = early_due board.errors q }) (beside_at footprint board.clients number client there) refl
    ∙ front_beside footprint board.clients other

front_whole : (board : Board) (number other : ℕ) (client : ClientBoard) (q : WholeRequest) (begun : Bool) → slice_get board.clients number ≡ Some client
    → front_at (whole_on board number client q begun).clients other ≡ (if other == number then None else front_at board.clients other)
front_whole board number other client q true there =
    let flight = flight_for board.memory (coming_on board q client.coming) q in
    front_set board.clients number other client (with_whole (has_replied board.errors client) flight client) there
    ∙ ap (λ (front : Option HeldMessage). if other == number then front else front_at board.clients other) (whole_front (has_replied board.errors client) flight client)
front_whole board number other client q false there =
    let footprint = joining_on board q in
    front_set (map (client_beside footprint) board.clients) number other (client_beside footprint client)
    (with_accepted (flight_for board.memory footprint q) (client_beside footprint client)) (beside_at footprint board.clients number client there)
    ∙ ap (λ (front : Option HeldMessage). if other == number then None else front) (front_beside footprint board.clients other)

-- with a port's answer
pub front_answered : (board : Board) (number other : ℕ) (client : ClientBoard) (message : HeldMessage) (answer : Result Progress TlRule)
    → slice_get board.clients number ≡ Some client
    → front_at (answered_on RealTime board number client message answer).clients other
    ≡ (if other == number then front_after client.front message answer else front_at board.clients other)
front_answered board number other client message (Err rule) there =
    elim (cases_eq other number) [
      | inl same ↦ rw (same, eq-eqb number number refl, there) refl
      | inr differ ↦ rw (ne_eqb other number differ) refl
    ]
front_answered board number other client message (Ok More) there =
    let continued = record client { front = Some message } in
    front_more (with_client number continued board) number other continued (request_of message) (is_some client.front)
    (get_set board.clients number continued (slice_get_within board.clients number client there))
    ∙ front_set board.clients number other client continued there
front_answered board number other client message (Ok Whole) there = front_whole board number other client (request_of message) (is_some client.front) there

-- with a beat on channel D
pub front_replied : (board : Board) (number other : ℕ) (beat : DBeat)
    → front_at (after_d board number (slice_get board.clients number) beat).clients other ≡ front_at board.clients other
front_replied board number other beat = by_client (slice_get board.clients number) refl
  where
    by_client : (found : Option ClientBoard) → slice_get board.clients number ≡ found
        → front_at (after_d board number found beat).clients other ≡ front_at board.clients other
    by_client None there = refl
    by_client (Some client) there =
        front_kept board.clients number other client (client_after beat (client_cut beat.source client)) there refl

-- with an error response
pub front_hit : (span : Option Span) (board : Board) (other : ℕ) → front_at (hit_on span board).clients other ≡ front_at board.clients other
front_hit None board other = refl
front_hit (Some span) board other = ap front_of (slice_get-map (hit_client span) board.clients other) ∙ by_client (slice_get board.clients other)
  where
    by_client : (o : Option ClientBoard) → front_of (option_map (hit_client span) o) ≡ front_of o
    by_client None = refl
    by_client (Some client) = refl
