-- A board that is reset is one that begins anew: what beats change of a board a reset lets go of, but for the bytes.
use Rattle.std.proofs.Common.{◌≡◌, ℕ, Bool, true, false, List, [], ◌∷◌, ◌++◌, map, Option, None, Some, Result, Ok, Err, if◌then◌else◌, refl, ◌∙◌, ap}
use Rattle.std.specs.Prelude.{is_some, slice_get, slice_set}
use Rattle.std.specs.List.{range_with_len}
use Rattle.std.specs.Option.{option_map}
use Rattle.std.proofs.lemmas.List.{map-set}
use Rattle.std.proofs.lemmas.Option.{slice_get-map, slice_get_within}
use Rattle.std.proofs.lemmas.Simd.{map-map}
use Rattle.bus_words.proofs.StoredPlaces.{get_set, set_back}
use Rattle.axi_checker.specs.declared.AxiBeat.{AxiBeat}
use Rattle.axi_checker.specs.declared.AxiBeat.TheVariants.{Ar as OnAr, Aw as OnAw, B as OnB, R as OnR, W as OnW}
use Rattle.meaning.specs.Meaning.{zeros}
use Rattle.tl_messages.specs.Requests.{HeldMessage, request_of}
use Rattle.tl_messages.specs.declared.ABeat.{ABeat}
use Rattle.tl_messages.specs.declared.DBeat.{DBeat}
use Rattle.tl_checker.specs.Ports.{joined}
use Rattle.tl_checker.specs.declared.Progress.{Progress}
use Rattle.tl_checker.specs.declared.Progress.TheVariants.{More, Whole}
use Rattle.tl_checker.specs.declared.TlRule.{TlRule}
use Rattle.scoreboard.specs.AxiPorts.{PortBoard, after_in_order, drained, is_early, port_after}
use Rattle.scoreboard.specs.Boards.{Beginning, Board, ClientBoard, accepted_on, after_a, after_all, after_d, after_seen, answer_to, answered_on, client_beside, continued_on, has_replied, hit_client, hit_on, joining_on, opening_client, opening_from, with_client, with_whole}
use Rattle.scoreboard.specs.FailedBursts.{Span, failed_span}
use Rattle.scoreboard.specs.Flights.{Footprint, InFlight}
use Rattle.scoreboard.specs.Resets.{left_on, reset_client, reset_on}
use Rattle.scoreboard.specs.declared.Errors.{Errors}
use Rattle.scoreboard.specs.declared.ObservedBeat.{ObservedBeat}
use Rattle.scoreboard.specs.declared.ObservedBeat.TheVariants.{A, D, Axi as OnAxi, Drained}
use Rattle.scoreboard.specs.declared.Policy.{Policy}
use Rattle.scoreboard.specs.declared.Policy.TheVariants.{AcceptanceOrder, RealTime}
use Rattle.scoreboard.proofs.real_time.Fronts.{beside_at}

-- all of a board that a reset keeps, but for the bytes
abbrev bare : Board → Board
bare board =
    record board {
      clients = map reset_client board.clients;
      memory = record board.memory { bytes = zeros };
      indeterminate = λ x. false;
      axi = drained board.axi;
    }

abbrev with_bare : Board → List ClientBoard → Board
with_bare board clients = record (bare board) { clients = clients }

-- ---- its clients

client_bare : (clients : List ClientBoard) (number : ℕ) (old changed : ClientBoard) → slice_get clients number ≡ Some old → reset_client changed ≡ reset_client old
    → map reset_client (slice_set clients number changed) ≡ map reset_client clients
client_bare clients number old changed there same =
    map-set reset_client clients number changed ∙ ap (slice_set (map reset_client clients) number) same
    ∙ set_back (map reset_client clients) number (reset_client old) (slice_get-map reset_client clients number ∙ ap (option_map reset_client) there)

beside_bare : (footprint : Footprint) (clients : List ClientBoard) → map reset_client (map (client_beside footprint) clients) ≡ map reset_client clients
beside_bare footprint clients = map-map reset_client (client_beside footprint) clients

-- one of them, beside another's request
changed_beside : (footprint : Footprint) (clients : List ClientBoard) (number : ℕ) (old changed : ClientBoard) → slice_get clients number ≡ Some old
    → reset_client changed ≡ reset_client old
    → map reset_client (slice_set (map (client_beside footprint) clients) number changed) ≡ map reset_client clients
changed_beside footprint clients number old changed there same =
    client_bare (map (client_beside footprint) clients) number (client_beside footprint old) changed (beside_at footprint clients number old there) same
    ∙ beside_bare footprint clients

-- ---- a beat on channel A

module _ (board : Board) (number : ℕ) (client : ClientBoard) (there : slice_get board.clients number ≡ Some client) (message : HeldMessage) where
  abbrev changed : ClientBoard
  changed = record client { front = Some message }

  abbrev heard : Board
  heard = with_client number changed board

  changed_there : slice_get heard.clients number ≡ Some changed
  changed_there = get_set board.clients number changed (slice_get_within board.clients number client there)

  heard_bare : map reset_client heard.clients ≡ map reset_client board.clients
  heard_bare = client_bare board.clients number client changed there refl

  more_bare : (policy : Policy) (begun : Bool) → bare (continued_on policy heard number changed message begun) ≡ bare board
  more_bare AcceptanceOrder begun = ap (with_bare board) heard_bare
  more_bare RealTime true =
      ap (with_bare board) (client_bare heard.clients number changed _ changed_there refl ∙ heard_bare)
  more_bare RealTime false =
      ap (with_bare board) (changed_beside (joining_on heard (request_of message)) heard.clients number changed _ changed_there refl ∙ heard_bare)

  replied_bare : (replied : Bool) (flight : InFlight) → reset_client (with_whole replied flight client) ≡ reset_client client
  replied_bare true flight = refl
  replied_bare false flight = refl

  whole_bare : (policy : Policy) (begun : Bool) → bare (accepted_on policy board number client message begun) ≡ bare board
  whole_bare AcceptanceOrder begun = ap (with_bare board) (client_bare board.clients number client _ there refl)
  whole_bare RealTime true = ap (with_bare board) (client_bare board.clients number client _ there (replied_bare (has_replied board.errors client) _))
  whole_bare RealTime false =
      ap (with_bare board) (changed_beside (joining_on board (request_of message)) board.clients number client _ there refl)

request_bare : (policy : Policy) (board : Board) (number : ℕ) (found : Option ClientBoard) (beat : ABeat) → slice_get board.clients number ≡ found
    → bare (after_a policy board number found beat) ≡ bare board
request_bare policy board number None beat there = refl
request_bare policy board number (Some client) beat there = by_answer (answer_to policy client beat)
  where
    message : HeldMessage
    message = joined client.limits client.front beat

    by_answer : (answer : Result Progress TlRule) → bare (answered_on policy board number client message answer) ≡ bare board
    by_answer (Err broken) = refl
    by_answer (Ok More) = more_bare board number client there message policy (is_some client.front)
    by_answer (Ok Whole) = whole_bare board number client there message policy (is_some client.front)

-- ---- other beats

reply_bare : (board : Board) (number : ℕ) (found : Option ClientBoard) (beat : DBeat) → slice_get board.clients number ≡ found
    → bare (after_d board number found beat) ≡ bare board
reply_bare board number None beat there = refl
reply_bare board number (Some client) beat there = ap (with_bare board) (client_bare board.clients number client _ there refl)

port_bare : (policy : Policy) (port : PortBoard) (beat : AxiBeat) → drained (port_after policy port beat) ≡ drained port
port_bare AcceptanceOrder port beat = refl
port_bare RealTime port (OnAw aw) = refl
port_bare RealTime port (OnW w) = by_early (is_early port w)
  where
    by_early : (b : Bool) → drained (if b then record port { early = port.early ++ w ∷ [] } else after_in_order port (OnW w)) ≡ drained port
    by_early true = refl
    by_early false = refl
port_bare RealTime port (OnB b) = refl
port_bare RealTime port (OnAr ar) = refl
port_bare RealTime port (OnR r) = refl

hit_bare : (span : Option Span) (board : Board) → bare (hit_on span board) ≡ bare board
hit_bare None board = refl
hit_bare (Some span) board = ap (with_bare board) (map-map reset_client (hit_client span) board.clients)

axi_bare : (policy : Policy) (board : Board) (beat : AxiBeat) → bare (after_seen policy board (OnAxi beat)) ≡ bare board
axi_bare AcceptanceOrder board beat = ap (λ (port : PortBoard). record (bare board) { axi = port }) (port_bare AcceptanceOrder board.axi beat)
axi_bare RealTime board beat =
    hit_bare (failed_span board.errors board.axi beat) (record board { axi = port_after RealTime board.axi beat })
    ∙ ap (λ (port : PortBoard). record (bare board) { axi = port }) (port_bare RealTime board.axi beat)

next_bare : (policy : Policy) (board : Board) (seen : ObservedBeat) → bare (after_seen policy board seen) ≡ bare board
next_bare policy board (A number beat) = request_bare policy board number (slice_get board.clients number) beat refl
next_bare policy board (D number beat) = reply_bare board number (slice_get board.clients number) beat refl
next_bare policy board (OnAxi beat) = axi_bare policy board beat
next_bare policy board Drained = refl

all_bare : (policy : Policy) (beats : List ObservedBeat) (board : Board) → bare (after_all policy board beats) ≡ bare board
all_bare policy [] board = refl
all_bare policy (seen ∷ beats) board = all_bare policy beats (after_seen policy board seen) ∙ next_bare policy board seen

-- ---- a reset

pub reset_begins : (policy : Policy) (errors : Errors) (beginning : Beginning) (before : List ObservedBeat) (old : Board)
    → old ≡ after_all policy (opening_from errors beginning) before → reset_on old ≡ opening_from errors (left_on beginning old)
reset_begins policy errors beginning before old is =
    ap (λ (b : Board). record b { memory = record b.memory { bytes = old.memory.bytes }; indeterminate = (reset_on old).indeterminate })
    (ap bare is ∙ all_bare policy before (opening_from errors beginning))
    ∙ ap (λ (clients : List ClientBoard). record (opening_from errors (left_on beginning old)) { clients = clients })
    (map-map reset_client (opening_client beginning.lists.config) (range_with_len 0 beginning.lists.config.clients))
