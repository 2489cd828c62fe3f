-- Boards without their footprints: requests in flight are found, join and end as with them.
use Rattle.std.proofs.Common.{◌≡◌, ℕ, Bool, true, false, ◌&&◌, List, [], ◌∷◌, map, Option, None, Some, if◌then◌else◌, refl, sym, ◌∙◌, ap, ap₂, arith}
use Rattle.std.specs.Prelude.{slice_set}
use Rattle.tl_messages.specs.declared.DBeat.{DBeat}
use Rattle.std.specs.Option.{option_map}
use Rattle.std.proofs.lemmas.List.{map-append, map-set, set-set}
use Rattle.std.proofs.lemmas.Simd.{map-map}
use Rattle.bus_words.proofs.MappedPlaces.{map_same}
use Rattle.tl_messages.specs.Requests.{WholeRequest}
use Rattle.scoreboard.specs.Boards.{Board, ClientBoard, after_d, begun_on, client_after, client_beside, client_cut, early_left, flight_for, given_on, has_replied, hit_client, hit_on, joined_on, with_accepted, with_client, with_taken, with_whole}
use Rattle.scoreboard.specs.FailedBursts.{Span, hit_flight}
use Rattle.scoreboard.specs.Flights.{Flights, Footprint, InFlight, begun_is_other, cut_short, each_flight, flights_after, is_busy, is_of_source, is_over, next_reply, no_footprint}
use Rattle.scoreboard.specs.Races.{flight_beside}
use Rattle.scoreboard.specs.Wider.{board_alone, client_alone, flight_alone}
use Rattle.scoreboard.specs.declared.Policy.{Policy}
use Rattle.scoreboard.specs.declared.Policy.TheVariants.{AcceptanceOrder, RealTime}
use Rattle.scoreboard.proofs.MappedLists.{any_map, find_map, without_first_map}

-- ---- a client's requests

pub busy_alone : (policy : Policy) (flights : Flights) (source : ℕ) → is_busy policy (each_flight flight_alone flights) source ≡ is_busy policy flights source
busy_alone AcceptanceOrder flights source = grind (arith, any_map (is_of_source source) flight_alone flights.due)
busy_alone RealTime flights source = any_map (is_of_source source) flight_alone flights.due

pub next_alone : (flights : Flights) (source : ℕ) → next_reply (each_flight flight_alone flights) source ≡ option_map flight_alone (next_reply flights source)
next_alone flights source = grind (arith, find_map (is_of_source source) flight_alone flights.due)

-- after a beat on channel D
pub flights_alone : (flights : Flights) (source : ℕ) → each_flight flight_alone (flights_after flights source) ≡ flights_after (each_flight flight_alone flights) source
flights_alone flights source =
    ap₂ {C = Flights} (λ (due : List InFlight) (begun : Option InFlight). record { due = due; begun = begun })
    (grind (arith, without_first_map (is_of_source source) flight_alone flights.due)) (rw (next_alone flights source) (grind arith))

-- as a beat finds them
pub cut_alone : (flights : Flights) (source : ℕ) → each_flight flight_alone (cut_short flights source) ≡ cut_short (each_flight flight_alone flights) source
cut_alone flights source =
    ap {B = Flights} (λ (begun : Option InFlight). record { due = map flight_alone flights.due; begun = begun })
    (by_over (is_over flights source) flights.begun ∙ ap (λ (over : Bool). if over then None else option_map flight_alone flights.begun) (sym same))
  where
    other_same : (begun : Option InFlight) → begun_is_other source (option_map flight_alone begun) ≡ begun_is_other source begun
    other_same begun = grind arith

    same : is_over (each_flight flight_alone flights) source ≡ is_over flights source
    same = ap₂ (λ (other due : Bool). other && due) (other_same flights.begun) (any_map (is_of_source source) flight_alone flights.due)

    by_over : (over : Bool) (begun : Option InFlight) → option_map flight_alone (if over then None else begun) ≡ (if over then None else option_map flight_alone begun)
    by_over true begun = refl
    by_over false begun = refl

-- ---- a client

beside_alone : (footprint : Footprint) (client : ClientBoard) → client_alone (client_beside footprint client) ≡ client_alone client
beside_alone footprint client = grind (arith, map-map flight_alone (flight_beside footprint) client.flights.due)

accepted_alone : (flight : InFlight) (client : ClientBoard) → client_alone (with_accepted flight client) ≡ with_accepted (flight_alone flight) (client_alone client)
accepted_alone flight client = grind (arith, map-append flight_alone client.flights.due (flight ∷ []))

-- ---- a board

abbrev with_clients : Board → List ClientBoard → Board
with_clients board clients = record (board_alone board) { clients = clients }

-- with one client changed
pub client_changed_alone : (board : Board) (number : ℕ) (client : ClientBoard) → board_alone (with_client number client board) ≡ with_client number (client_alone client) (board_alone board)
client_changed_alone board number client = ap (with_clients board) (map-set client_alone board.clients number client)

-- with all beside a request
clients_beside : (footprint : Footprint) (clients : List ClientBoard) → map client_alone (map (client_beside footprint) clients) ≡ map client_alone clients
clients_beside footprint clients =
    map-map client_alone (client_beside footprint) clients ∙ map_same (λ other. client_alone (client_beside footprint other)) client_alone clients (beside_alone footprint)

-- with one request more
pub joined_alone : (board : Board) (number : ℕ) (client : ClientBoard) (q : WholeRequest) (footprint : Footprint)
    → board_alone (joined_on board number client q footprint) ≡ with_taken (board_alone board) number (client_alone client) q no_footprint
joined_alone board number client q footprint =
    let flight : InFlight = flight_for board.memory footprint q in
    ap (with_clients (joined_on board number client q footprint))
    (map-set client_alone (map (client_beside footprint) board.clients) number (with_accepted flight (client_beside footprint client))
    ∙ ap₂ (λ (clients : List ClientBoard) (changed : ClientBoard). slice_set clients number changed) (clients_beside footprint board.clients)
    (accepted_alone flight (client_beside footprint client) ∙ ap (with_accepted (flight_alone flight)) (beside_alone footprint client)))

-- taken in its turn
pub taken_alone : (board : Board) (number : ℕ) (client : ClientBoard) (q : WholeRequest) (footprint : Footprint)
    → board_alone (with_taken board number client q footprint) ≡ with_taken (board_alone board) number (client_alone client) q no_footprint
taken_alone board number client q footprint =
    let flight : InFlight = flight_for board.memory footprint q in
    ap (with_clients (with_taken board number client q footprint))
    (map-set client_alone board.clients number (with_accepted flight client) ∙ ap (slice_set (map client_alone board.clients) number) (accepted_alone flight client))

-- that had begun before
pub given_alone : (board : Board) (number : ℕ) (client : ClientBoard) (q : WholeRequest) (footprint : Footprint)
    → has_replied board.errors client ≡ false
    → board_alone (given_on board number client q footprint) ≡ with_taken (board_alone board) number (client_alone client) q no_footprint
given_alone board number client q footprint none =
    let flight : InFlight = flight_for board.memory footprint q in
    ap (with_clients (given_on board number client q footprint))
    (ap (λ (replied : Bool). map client_alone (slice_set board.clients number (with_whole replied flight client))) none
    ∙ map-set client_alone board.clients number (with_accepted flight client) ∙ ap (slice_set (map client_alone board.clients) number) (accepted_alone flight client))

-- with a message of one client that has begun
pub begun_alone : (board : Board) (number : ℕ) (client : ClientBoard) (early : Option DBeat) (footprint : Footprint)
    → board_alone (begun_on (with_client number client board) number (record client { early = early }) footprint) ≡ with_client number (client_alone client) (board_alone board)
begun_alone board number client early footprint =
    ap (with_clients board)
    (map-set client_alone (map (client_beside footprint) (slice_set board.clients number client)) number (record (client_beside footprint client) { coming = footprint; early = early })
    ∙ ap₂ (λ (clients : List ClientBoard) (changed : ClientBoard). slice_set clients number changed) (clients_beside footprint (slice_set board.clients number client))
    (beside_alone footprint client)
    ∙ ap (λ (clients : List ClientBoard). slice_set clients number (client_alone client)) (map-set client_alone board.clients number client)
    ∙ set-set (map client_alone board.clients) number (client_alone client) (client_alone client))

-- and goes on
pub further_alone : (board : Board) (number : ℕ) (client : ClientBoard) (coming : Footprint)
    → board_alone (with_client number (record client { coming = coming }) (with_client number client board)) ≡ with_client number (client_alone client) (board_alone board)
further_alone board number client coming =
    ap (with_clients board)
    (ap (map client_alone) (set-set board.clients number client (record client { coming = coming })) ∙ map-set client_alone board.clients number (record client { coming = coming }))

-- with an error response
hit_client_alone : (span : Span) (client : ClientBoard) → client_alone (hit_client span client) ≡ client_alone client
hit_client_alone span client = grind (arith, map-map flight_alone (hit_flight span) client.flights.due)

pub hit_alone : (span : Option Span) (board : Board) → board_alone (hit_on span board) ≡ board_alone board
hit_alone None board = refl
hit_alone (Some span) board =
    ap (with_clients board)
    (map-map client_alone (hit_client span) board.clients ∙ map_same (λ client. client_alone (hit_client span client)) client_alone board.clients (hit_client_alone span))

-- where nothing may come early nothing may then
pub none_left : (b : Bool) (source : ℕ) → (if b then None else early_left None source) ≡ None
none_left true source = refl
none_left false source = refl

-- ---- a beat on channel D

told_after : (old : Board) (number : ℕ) (client : ClientBoard) (beat : DBeat)
    → board_alone (with_client number (client_after beat client) old) ≡ with_client number (client_after beat (client_alone client)) (board_alone old)
told_after old number client beat =
    grind (arith, client_changed_alone old number (client_after beat client), flights_alone client.flights beat.source)

pub reply_alone : (old : Board) (number : ℕ) (found : Option ClientBoard) (beat : DBeat)
    → board_alone (after_d old number found beat) ≡ after_d (board_alone old) number (option_map client_alone found) beat
reply_alone old number None beat = refl
reply_alone old number (Some client) beat =
    grind (arith, told_after old number (client_cut beat.source client) beat, cut_alone client.flights beat.source)
