-- A board whose client has answered a beat on channel A.
use Rattle.std.proofs.Common.{◌≡◌, ℕ, zero, suc, false, List, [], ◌∷◌, ◌++◌, map, set, Some, None, Result, Ok, Err, refl, sym, ◌∙◌, ap, subst}
use Rattle.std.specs.Prelude.{Bool, is_none, is_some, slice_get, true}
use Rattle.std.specs.List.{list_any}
use Rattle.std.proofs.lemmas.List.{map-set, set-set}
use Rattle.bus_words.proofs.StoredPlaces.{set_back}
use Rattle.tl_messages.specs.Requests.{HeldMessage, request_of}
use Rattle.tl_messages.specs.declared.ABeat.{ABeat}
use Rattle.tl_checker.specs.Ports.{joined}
use Rattle.tl_checker.specs.declared.Progress.{Progress}
use Rattle.tl_checker.specs.declared.Progress.TheVariants.{More, Whole}
use Rattle.tl_checker.specs.declared.TlRule.{TlRule}
use Rattle.scoreboard.specs.Boards.{Board, ClientBoard, accepted_on, after_a, answer_to, answered_on, client_beside, client_footprints, coming_on, continued_on, fails, flight_for, footprints_of, has_replied, joining_on, place_on, with_accepted, with_client, with_whole}
use Rattle.scoreboard.specs.Flights.{Footprint, InFlight, is_of_source}
use Rattle.scoreboard.specs.InTurn.{after_turn, unless_fixed}
use Rattle.scoreboard.specs.InsideBoards.{ClientState, IsFreeOf, client_of, flights_of, front_after}
use Rattle.scoreboard.specs.Races.{after_given, after_joining, alone, joining, unless_failed}
use Rattle.serial_memory.specs.SerialMemory.{carried_out, place_in}
use Rattle.scoreboard.specs.declared.Errors.{Errors}
use Rattle.scoreboard.specs.declared.Errors.TheVariants.{Any, Strict}
use Rattle.scoreboard.specs.declared.Policy.{Policy}
use Rattle.scoreboard.specs.declared.Policy.TheVariants.{AcceptanceOrder, RealTime}

-- ---- a client of a list that has let go of what it had begun

same_footprints : (clients : List ClientBoard) (number : ℕ) (client : ClientBoard) → slice_get clients number ≡ Some client
    → footprints_of (set clients number (record client { front = None })) ≡ footprints_of clients
same_footprints [] number client there = refl
same_footprints (first ∷ clients) zero client there = let same : first ≡ client = cc (there) in ap (λ (c : ClientBoard). client_footprints c ++ footprints_of clients) (sym same)
same_footprints (first ∷ clients) (suc number) client there = ap (λ rest. client_footprints first ++ rest) (same_footprints clients number client there)

-- whether its reply came is the same, and what the client is when it is whole
whole_same : (errors : Errors) (flight : InFlight) (client : ClientBoard)
    → with_whole (has_replied errors (record client { front = None })) flight (record client { front = None }) ≡ with_whole (has_replied errors client) flight client
whole_same Strict flight client = refl
whole_same Any flight client = by_told (is_none client.early)
  where
    by_told : (replied : Bool) → with_whole replied flight (record client { front = None }) ≡ with_whole replied flight client
    by_told true = refl
    by_told false = refl

-- that its client has let go of it before is nothing to the request
accepted_same : (policy : Policy) (board : Board) (number : ℕ) (client : ClientBoard) (message : HeldMessage) (begun : Bool) → slice_get board.clients number ≡ Some client
    → accepted_on policy (with_client number (record client { front = None }) board) number (record client { front = None }) message begun
    ≡ accepted_on policy board number client message begun
accepted_same AcceptanceOrder board number client message begun there =
    let footprint = alone board.indeterminate (place_in board.memory (request_of message)) (request_of message) in
    ap {B = Board} (λ (clients : List ClientBoard). record board {
      clients = clients;
      memory = carried_out board.memory (request_of message);
      indeterminate = after_turn board.indeterminate footprint (request_of message).bytes;
    })
    (set-set board.clients number (record client { front = None }) (with_accepted (flight_for board.memory (unless_fixed footprint) (request_of message)) client))
accepted_same RealTime board number client message true there =
    let footprint = coming_on board (request_of message) client.coming in
    let changed : ClientBoard = record client { front = None } in
    let flight = flight_for board.memory footprint (request_of message) in
    ap {B = Board} (λ (clients : List ClientBoard). record board {
      clients = clients;
      memory = carried_out board.memory (request_of message);
      indeterminate = after_given board.indeterminate footprint (request_of message).bytes;
    })
    (set-set board.clients number changed (with_whole (has_replied board.errors changed) flight changed) ∙ ap (set board.clients number) (whole_same board.errors flight client))
accepted_same RealTime board number client message false there =
    ap (λ (footprints : List Footprint). joined_beside (set board.clients number changed) changed footprints) (same_footprints board.clients number client there)
    ∙ ap {B = Board} (λ (clients : List ClientBoard). record board {
      clients = clients;
      memory = carried_out board.memory (request_of message);
      indeterminate = after_joining board.indeterminate (footprints_of board.clients) footprint (request_of message).bytes;
    })
    (ap (λ (clients : List ClientBoard). set clients number (with_accepted flight (client_beside footprint changed))) (map-set (client_beside footprint) board.clients number changed)
    ∙ set-set (map (client_beside footprint) board.clients) number (client_beside footprint changed) (with_accepted flight (client_beside footprint changed)))
  where
    changed : ClientBoard
    changed = record client { front = None }

    footprint : Footprint
    footprint = joining_on board (request_of message)

    flight : InFlight
    flight = flight_for board.memory footprint (request_of message)

    -- the board where it has joined clients, of which these are the footprints
    joined_beside : List ClientBoard → ClientBoard → List Footprint → Board
    joined_beside clients own_client footprints =
        let joined_footprint = unless_failed (fails board.errors board.memory (request_of message)) (joining board.indeterminate footprints (place_on board (request_of message)) (request_of message)) in
        record board {
          clients = set (map (client_beside joined_footprint) clients) number (with_accepted (flight_for board.memory joined_footprint (request_of message)) (client_beside joined_footprint own_client));
          memory = carried_out board.memory (request_of message);
          indeterminate = after_joining board.indeterminate footprints joined_footprint (request_of message).bytes;
        }

-- ---- what the answer makes of the board

module _ (policy : Policy) (board : Board) (number : ℕ) (found : ClientBoard) (beat : ABeat) (there : slice_get board.clients number ≡ Some found) where
  abbrev message : HeldMessage
  message = joined found.limits found.front beat

  -- the board with its front after the answer
  abbrev pub with_front : Result Progress TlRule → Board
  with_front answer = with_client number (record found { front = front_after found.front message answer }) board

  -- and after the request, where it has begun or is whole
  abbrev pub After : Board → Result Progress TlRule → Type 0
  After final (Err broken) = final ≡ with_front (Err broken)
  After final (Ok More) = final ≡ continued_on policy (with_front (Ok More)) number (record found { front = Some message }) message (is_some found.front)
  After final (Ok Whole) = final ≡ accepted_on policy (with_front (Ok Whole)) number (record found { front = None }) message (is_some found.front)

  pub state_as : (final : Board) (answer told : Result Progress TlRule) → answer ≡ told → answer ≡ answer_to policy found beat → After final told
      → final ≡ after_a policy board number (slice_get board.clients number) beat
  state_as final answer told is answers after =
      by_answer told after ∙ ap (answered_on policy board number found message) (sym is ∙ answers) ∙ ap (λ o. after_a policy board number o beat) (sym there)
    where
      by_answer : (told : Result Progress TlRule) → After final told → final ≡ answered_on policy board number found message told
      by_answer (Err broken) after = after ∙ ap {B = Board} (λ (clients : List ClientBoard). record board { clients = clients }) (set_back board.clients number found there)
      by_answer (Ok More) after = after
      by_answer (Ok Whole) after = after ∙ accepted_same policy board number found message (is_some found.front) there

-- one whose request is whole has begun nothing, and its request is of a free source
pub free_whole : (found new : ClientState) (message request : HeldMessage) (answer : Result Progress TlRule) → answer ≡ Ok Whole
    → new ≡ record found { front = front_after found.front message answer } → list_any (is_of_source request.source) (flights_of found.flights).due ≡ false
    → IsFreeOf request.source (client_of new)
free_whole found new message request answer whole is free =
    let changed = is ∙ ap (λ (told : Result Progress TlRule). record found { front = front_after found.front message told }) whole in
    subst (λ (client : ClientState). IsFreeOf request.source (client_of client)) (sym changed) (record { front = refl; free = free })
