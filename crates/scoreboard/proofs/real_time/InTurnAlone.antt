-- Boards of acceptance order without their footprints: they go on, and say of beats, as with them, where no request reads what isn't known.
use Rattle.std.proofs.Common.{◌≡◌, ℕ, Bool, false, List, [], ◌∷◌, Option, None, Some, Result, Ok, Err, refl, sym, ◌∙◌, ap, ap₂, subst}
use Rattle.std.specs.Prelude.{slice_get, unwrap_or}
use Rattle.std.specs.List.{AllByRecursion, find}
use Rattle.std.specs.Option.{option_map, option_or, option_to_list}
use Rattle.std.proofs.lemmas.Option.{slice_get-map}
use Rattle.std.proofs.lemmas.Simd.{map-map}
use Rattle.bus_words.proofs.MappedPlaces.{map_same}
use Rattle.bus_words.proofs.PlaceChanges.{all-append, all-find}
use Rattle.setups.specs.Setups.{SetupLists}
use Rattle.tl_messages.specs.Requests.{HeldMessage, WholeRequest, request_of}
use Rattle.tl_messages.specs.declared.ABeat.{ABeat}
use Rattle.tl_messages.specs.declared.DBeat.{DBeat}
use Rattle.tl_checker.specs.Ports.{joined, judged}
use Rattle.tl_checker.specs.declared.Progress.{Progress}
use Rattle.tl_checker.specs.declared.Progress.TheVariants.{More, Whole}
use Rattle.tl_checker.specs.declared.TlRule.{TlRule}
use Rattle.scoreboard.specs.AxiPorts.{drained, port_after}
use Rattle.scoreboard.specs.Boards.{Board, ClientBoard, a_wrong, after_a, after_all, after_d, after_seen, answer_to, answered_on, client_after, client_cut, d_wrong, flight_for, opening_board, told_to, with_accepted, with_client, with_taken, wrong_at, wrong_in_turn, wrong_reply}
use Rattle.scoreboard.specs.Flights.{Flights, Footprint, InFlight, each_flight, is_of_source, next_reply, no_footprint}
use Rattle.scoreboard.specs.InTurn.{DueBeat, after_turn, unless_fixed}
use Rattle.scoreboard.specs.Races.{alone}
use Rattle.scoreboard.specs.Wider.{board_alone, client_alone, flight_alone}
use Rattle.scoreboard.specs.declared.Errors.TheVariants.{Strict}
use Rattle.scoreboard.specs.declared.ObservedBeat.{ObservedBeat}
use Rattle.scoreboard.specs.declared.ObservedBeat.TheVariants.{A, D, Axi as OnAxi, Drained}
use Rattle.scoreboard.specs.declared.Policy.TheVariants.{AcceptanceOrder}
use Rattle.serial_memory.specs.SerialMemory.{place_in}
use Rattle.scoreboard.proofs.acceptance_order.Fixed.{dues_silent, kept_known, known_after}
use Rattle.scoreboard.proofs.real_time.EachFlight.{AreOfEach, IsOfEach, each_cut, each_replied}
use Rattle.scoreboard.proofs.real_time.Explained.{each_client, opening_at}
use Rattle.scoreboard.proofs.real_time.FlightsAlone.{busy_alone, client_changed_alone, next_alone, reply_alone, taken_alone}

-- ---- without footprints there are none to leave out

flights_twice : (flights : Flights) → each_flight flight_alone (each_flight flight_alone flights) ≡ each_flight flight_alone flights
flights_twice flights =
    ap₂ {C = Flights} (λ (due : List InFlight) (begun : Option InFlight). record { due = due; begun = begun })
    (map-map flight_alone flight_alone flights.due) (by_begun flights.begun)
  where
    by_begun : (begun : Option InFlight) → option_map flight_alone (option_map flight_alone begun) ≡ option_map flight_alone begun
    by_begun None = refl
    by_begun (Some flight) = refl

client_twice : (client : ClientBoard) → client_alone (client_alone client) ≡ client_alone client
client_twice client =
    ap {B = ClientBoard} (λ (flights : Flights). record client { flights = flights; coming = no_footprint; early = None }) (flights_twice client.flights)

pub alone_twice : (board : Board) → board_alone (board_alone board) ≡ board_alone board
alone_twice board =
    ap {B = Board} (λ (clients : List ClientBoard). record board { clients = clients; indeterminate = λ x. false; errors = Strict })
    (map-map client_alone client_alone board.clients ∙ map_same (λ client. client_alone (client_alone client)) client_alone board.clients client_twice)

-- what a board is without its footprints, it is without those
pub on_alone : (board other : Board) → board_alone board ≡ other → board_alone board ≡ board_alone other
on_alone board other is = sym (alone_twice board) ∙ ap board_alone is

-- with a request that takes effect in its turn
pub taken_twice : (board : Board) (number : ℕ) (client : ClientBoard) (q : WholeRequest) (footprint : Footprint)
    → board_alone (with_taken (board_alone board) number (client_alone client) q footprint) ≡ with_taken (board_alone board) number (client_alone client) q no_footprint
taken_twice board number client q footprint =
    taken_alone (board_alone board) number (client_alone client) q footprint
    ∙ ap₂ (λ (b : Board) (c : ClientBoard). with_taken b number c q no_footprint) (alone_twice board) (client_twice client)

-- ---- a beat

same_answer_alone : (client : ClientBoard) (beat : ABeat) → answer_to AcceptanceOrder client beat ≡ answer_to AcceptanceOrder (client_alone client) beat
same_answer_alone client beat = ap (judged client.limits client.front beat) (sym (busy_alone AcceptanceOrder client.flights beat.source))

request_goes : (board : Board) (number : ℕ) (found : Option ClientBoard) (beat : ABeat)
    → board_alone (after_a AcceptanceOrder board number found beat) ≡ board_alone (after_a AcceptanceOrder (board_alone board) number (option_map client_alone found) beat)
request_goes board number None beat = sym (alone_twice board)
request_goes board number (Some client) beat =
    by_answer (answer_to AcceptanceOrder client beat)
    ∙ ap (λ (answer : Result Progress TlRule). board_alone (answered_on AcceptanceOrder (board_alone board) number (client_alone client) message answer)) (same_answer_alone client beat)
  where
    message : HeldMessage
    message = joined client.limits client.front beat

    changed : ClientBoard
    changed = record client { front = Some message }

    q : WholeRequest
    q = request_of message

    by_answer : (answer : Result Progress TlRule)
        → board_alone (answered_on AcceptanceOrder board number client message answer)
        ≡ board_alone (answered_on AcceptanceOrder (board_alone board) number (client_alone client) message answer)
    by_answer (Err broken) = sym (alone_twice board)
    by_answer (Ok More) =
        on_alone (with_client number changed board) (with_client number (client_alone changed) (board_alone board)) (client_changed_alone board number changed)
    by_answer (Ok Whole) =
        taken_alone board number client q (unless_fixed (alone board.indeterminate (place_in board.memory q) q))
        ∙ sym (taken_twice board number client q (unless_fixed (alone (λ x. false) (place_in board.memory q) q)))

-- with it a board without its footprints goes as the one with them
pub goes_alone : (board : Board) (seen : ObservedBeat) → board_alone (after_seen AcceptanceOrder board seen) ≡ board_alone (after_seen AcceptanceOrder (board_alone board) seen)
goes_alone board (A number beat) =
    request_goes board number (slice_get board.clients number) beat
    ∙ ap (λ (found : Option ClientBoard). board_alone (after_a AcceptanceOrder (board_alone board) number found beat)) (sym (slice_get-map client_alone board.clients number))
goes_alone board (D number beat) =
    on_alone (after_d board number (slice_get board.clients number) beat) (after_d (board_alone board) number (option_map client_alone (slice_get board.clients number)) beat)
    (reply_alone board number (slice_get board.clients number) beat)
    ∙ ap (λ (found : Option ClientBoard). board_alone (after_d (board_alone board) number found beat)) (sym (slice_get-map client_alone board.clients number))
goes_alone board (OnAxi beat) =
    on_alone (record board { axi = port_after AcceptanceOrder board.axi beat }) (record (board_alone board) { axi = port_after AcceptanceOrder board.axi beat }) refl
goes_alone board Drained = on_alone (record board { axi = drained board.axi }) (record (board_alone board) { axi = drained board.axi }) refl

-- ---- where no request reads what isn't known

-- one reads nothing that plays a part
abbrev pub IsQuiet : InFlight → Type 0
IsQuiet flight = flight.footprint.reads ≡ false

pub record IsQuietBoard (board : Board) : Type 0 where
  pub known : board.indeterminate ≡ (λ x. false)
  pub quiet : AreOfEach IsQuiet board.clients

quiet_request : (board : Board) (number : ℕ) (found : Option ClientBoard) (beat : ABeat) → slice_get board.clients number ≡ found → IsQuietBoard board
    → IsQuietBoard (after_a AcceptanceOrder board number found beat)
quiet_request board number None beat there is = is
quiet_request board number (Some client) beat there is = by_answer (answer_to AcceptanceOrder client beat)
  where
    message : HeldMessage
    message = joined client.limits client.front beat

    q : WholeRequest
    q = request_of message

    its : IsOfEach IsQuiet client
    its = is.quiet number client there

    acts : Footprint
    acts = alone board.indeterminate (place_in board.memory q) q

    flight : InFlight
    flight = flight_for board.memory (unless_fixed acts) q

    quiet : IsQuiet flight
    quiet =
        subst (λ (d : ℕ → Bool). (unless_fixed (alone d (place_in board.memory q) q)).reads ≡ false) (sym is.known)
        (ap (λ (f : Footprint). f.reads) (kept_known (place_in board.memory q) q))

    by_answer : (answer : Result Progress TlRule) → IsQuietBoard (answered_on AcceptanceOrder board number client message answer)
    by_answer (Err broken) = is
    by_answer (Ok More) =
        record { known = is.known; quiet = each_client (IsOfEach IsQuiet) board.clients number client (record client { front = Some message }) there is.quiet its }
    by_answer (Ok Whole) =
        record {
          known = subst (λ (d : ℕ → Bool). after_turn d (alone d (place_in board.memory q) q) q.bytes ≡ (λ x. false)) (sym is.known) (known_after (place_in board.memory q) q);
          quiet = each_client (IsOfEach IsQuiet) board.clients number client (with_accepted flight client) there is.quiet
              (all-append IsQuiet client.flights.due flight its.0 quiet, its.1);
        }

quiet_reply : (board : Board) (number : ℕ) (found : Option ClientBoard) (beat : DBeat) → slice_get board.clients number ≡ found → IsQuietBoard board
    → IsQuietBoard (after_d board number found beat)
quiet_reply board number None beat there is = is
quiet_reply board number (Some client) beat there is =
    let changed = client_cut beat.source client in
    record {
      known = is.known;
      quiet = each_client (IsOfEach IsQuiet) board.clients number client (client_after beat changed) there is.quiet
          (each_replied IsQuiet (λ footprint flight quiet. quiet) (λ flight some quiet. quiet) changed beat.source (unwrap_or (told_to changed) beat.denied)
          (each_cut IsQuiet (λ footprint flight quiet. quiet) (λ flight some quiet. quiet) client beat.source (is.quiet number client there)));
    }

pub quiet_next : (board : Board) (seen : ObservedBeat) → IsQuietBoard board → IsQuietBoard (after_seen AcceptanceOrder board seen)
quiet_next board (A number beat) is = quiet_request board number (slice_get board.clients number) beat refl is
quiet_next board (D number beat) is = quiet_reply board number (slice_get board.clients number) beat refl is
quiet_next board (OnAxi beat) is = record { known = is.known; quiet = is.quiet }
quiet_next board Drained is = record { known = is.known; quiet = is.quiet }

pub quiet_opens : (setup : SetupLists) → IsQuietBoard (opening_board setup)
quiet_opens setup =
    record {
      known = refl;
      quiet = λ number client is.
          let found = opening_at setup.config 0 setup.config.clients number client is in subst (IsOfEach IsQuiet) (sym found.1) (tt, tt);
    }

pub quiet_all : (board : Board) (beats : List ObservedBeat) → IsQuietBoard board → IsQuietBoard (after_all AcceptanceOrder board beats)
quiet_all board [] is = is
quiet_all board (seen ∷ beats) is = quiet_all (after_seen AcceptanceOrder board seen) beats (quiet_next board seen is)

-- ---- what such a board says of a beat

next_quiet : (client : ClientBoard) (source : ℕ) (flight : InFlight) → IsOfEach IsQuiet client → next_reply client.flights source ≡ Some flight → IsQuiet flight
next_quiet client source flight all is = by_begun client.flights.begun all.1 is
  where
    by_begun : (begun : Option InFlight) → AllByRecursion IsQuiet (option_to_list begun)
        → option_or begun (find (is_of_source source) client.flights.due) ≡ Some flight → IsQuiet flight
    by_begun None none found = all-find IsQuiet (is_of_source source) client.flights.due flight all.0 found
    by_begun (Some one) some found = let same : one ≡ flight = cc (found) in subst IsQuiet same some.0

reply_says : (told other : Option Bool) (next : Option InFlight) (beat : DBeat) → ((flight : InFlight) → next ≡ Some flight → IsQuiet flight)
    → wrong_reply AcceptanceOrder told next beat ≡ wrong_reply AcceptanceOrder other (option_map flight_alone next) beat
reply_says told other None beat quiet = refl
reply_says told other (Some flight) beat quiet = ap (λ (dues : List DueBeat). wrong_in_turn dues beat) (dues_silent flight.footprint flight.beats (quiet flight refl))

client_says : (found : Option ClientBoard) (beat : DBeat) → ((client : ClientBoard) → found ≡ Some client → IsOfEach IsQuiet client)
    → d_wrong AcceptanceOrder found beat ≡ d_wrong AcceptanceOrder (option_map client_alone found) beat
client_says None beat quiet = refl
client_says (Some client) beat quiet =
    rw (next_alone client.flights beat.source)
    (reply_says (told_to client) (told_to (client_alone client)) (next_reply client.flights beat.source) beat
    (λ flight is. next_quiet client beat.source flight (quiet client refl) is))

request_says : (found : Option ClientBoard) (beat : ABeat) → a_wrong AcceptanceOrder found beat ≡ a_wrong AcceptanceOrder (option_map client_alone found) beat
request_says None beat = refl
request_says (Some client) beat = rw (busy_alone AcceptanceOrder client.flights beat.source) refl

pub says_alone : (board : Board) (seen : ObservedBeat) → IsQuietBoard board → wrong_at AcceptanceOrder board seen ≡ wrong_at AcceptanceOrder (board_alone board) seen
says_alone board (A number beat) is = rw (slice_get-map client_alone board.clients number) (request_says (slice_get board.clients number) beat)
says_alone board (D number beat) is =
    rw (slice_get-map client_alone board.clients number) (client_says (slice_get board.clients number) beat (λ client there. is.quiet number client there))
says_alone board (OnAxi beat) is = refl
says_alone board Drained is = refl
