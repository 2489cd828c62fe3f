-- What a board holds after a beat, client by client, and that it stays held so.
use Rattle.std.proofs.Common.{◌≡◌, ℕ, ◌<◌, ◌≤◌, ◌/◌, Bool, true, false, List, [], ◌∷◌, map, set, length, get_or, Some, refl, sym, subst, ◌∙◌, ap, ap₂}
use Rattle.std.specs.Prelude.{IfSome, slice_get}
use Rattle.std.specs.Option.{option_map}
use Rattle.std.proofs.lemmas.List.{length-map, length-set, map-set}
use Rattle.std.proofs.lemmas.Option.{same_Some, slice_get-map, slice_get_read}
use Rattle.bus_words.proofs.MappedPlaces.{map_some}
use Rattle.bus_words.proofs.PlaceChanges.{all-got, all-set}
use Rattle.tl_messages.specs.Operations.{has_data}
use Rattle.tl_messages.specs.Requests.{HeldMessage, WholeRequest, begun, bytes_given, request_of}
use Rattle.tl_messages.specs.declared.ABeat.{ABeat}
use Rattle.tl_messages.specs.declared.DBeat.{DBeat}
use Rattle.scoreboard.specs.Boards.{Board, ClientBoard, acting, after_d, begun_on, client_after, client_beside, client_cut, client_footprints, coming_on, early_due, fails, flight_for, footprints_of, given_on, has_replied, hit_client, in_turn_on, joined_on, joining_on, with_accepted, with_client, with_taken, with_whole}
use Rattle.scoreboard.specs.FailedBursts.{Span}
use Rattle.scoreboard.specs.Flights.{Footprint, InFlight, is_of_source}
use Rattle.scoreboard.specs.InTurn.{after_turn, unless_fixed}
use Rattle.scoreboard.specs.Resets.{reset_client}
use Rattle.scoreboard.specs.InsideBoards.{HaveRoomToWrite, BoardState, ClientState, ClientsHaveRoom, FlightState, IsFreeOf, board_of, client_of, flight_of, footprint_of}
use Rattle.scoreboard.specs.Races.{after_given, after_joining, beside_dependent, flight_beside, joining, unless_failed}
use Rattle.serial_memory.specs.SerialMemory.{HasRoomToGive, Memory, MemoryState, carried_out, doubts_of, memory_of, place_in, rooms_of}
use Rattle.scoreboard.specs.declared.Errors.{Errors}
use Rattle.scoreboard.specs.declared.Errors.TheVariants.{Any, Strict}
use Rattle.scoreboard.proofs.held.ClientFootprints.{all_beside, all_hit, room_client, room_each}
use Rattle.scoreboard.proofs.held.Marks.{nothing_given}
use Rattle.scoreboard.proofs.MappedLists.{any_map}

-- ---- a client of a list

pub client_there : (clients : List ClientState) (number : ℕ) (found : ClientState) → slice_get clients number ≡ Some found
    → slice_get (map client_of clients) number ≡ Some (client_of found)
client_there clients number found is = slice_get-map client_of clients number ∙ ap (option_map client_of) is

pub there_at : (clients : List ClientState) (number : ℕ) (found : ClientState) → number < length clients → found ≡ get_or clients number found → slice_get clients number ≡ Some found
there_at clients number found within is = slice_get_read clients (length clients) number found refl within is

-- the one that is held there is the one that is seen there
pub client_is : (clients : List ClientState) (number : ℕ) (one : ClientState) (found : ClientBoard) → slice_get clients number ≡ Some one
    → slice_get (map client_of clients) number ≡ Some found → client_of one ≡ found
client_is clients number one found there is = same_Some _ _ (sym (client_there clients number one there) ∙ is)

-- ---- a beat on channel D

pub replied : (state : BoardState) (number : ℕ) (found new : ClientState) (beat : DBeat) → slice_get state.clients number ≡ Some found
    → client_of new ≡ client_after beat (client_cut beat.source (client_of found))
    → board_of (record state { clients = set state.clients number new }) ≡ after_d (board_of state) number (slice_get (board_of state).clients number) beat
replied state number found new beat there is =
    rw (client_there state.clients number found there)
    (ap {B = Board} (λ (clients : List ClientBoard). record (board_of state) { clients = clients }) (map-set client_of state.clients number new ∙ ap (set (map client_of state.clients) number) is))

-- ---- what stays so where a client changes

abbrev pub AreKept : ℕ → (ℕ → Bool) → List ClientState → Type 0
AreKept room rooms clients = (length clients ≤ 8) × ClientsHaveRoom room clients × HaveRoomToWrite rooms (footprints_of (map client_of clients))

pub client_kept : (room : ℕ) (rooms : ℕ → Bool) (clients : List ClientState) (number : ℕ) (found new : ClientState) → slice_get clients number ≡ Some found
    → new.flights.room ≡ found.flights.room → (HaveRoomToWrite rooms (client_footprints (client_of found)) → HaveRoomToWrite rooms (client_footprints (client_of new))) → AreKept room rooms clients
    → AreKept room rooms (set clients number new)
client_kept room rooms clients number found new there same keeps held =
    let has = λ (client : ClientState). client.flights.room ≡ room in
    let good = λ (client : ClientState). HaveRoomToWrite rooms (client_footprints (client_of client)) in (
      rw (length-set clients number new) held.0,
      all-set has clients number new held.1 (same ∙ all-got has clients number found held.1 there),
      room_client rooms clients number new held.2 (keeps (all-got good clients number found (room_each rooms clients held.2) there)),
    )

-- and where all change that are on good pages, and stay there
all_kept : (room : ℕ) (rooms : ℕ → Bool) (clients new : List ClientState) (change : ClientBoard → ClientBoard) → map client_of new ≡ map change (map client_of clients)
    → (HaveRoomToWrite rooms (footprints_of (map client_of clients)) → HaveRoomToWrite rooms (footprints_of (map change (map client_of clients))))
    → (ClientsHaveRoom room clients → ClientsHaveRoom room new) → AreKept room rooms clients → AreKept room rooms new
all_kept room rooms clients new change is good fits held =
    let many = sym (length-map new client_of) ∙ ap length is ∙ length-map (map client_of clients) change ∙ length-map clients client_of in (
      rw many held.0,
      fits held.1,
      subst (λ (cs : List ClientBoard). HaveRoomToWrite rooms (footprints_of cs)) (sym is) (good held.2),
    )

-- that have given way
pub beside_kept : (room : ℕ) (rooms : ℕ → Bool) (clients given : List ClientState) (footprint : Footprint) → map client_of given ≡ map (client_beside footprint) (map client_of clients)
    → (ClientsHaveRoom room clients → ClientsHaveRoom room given) → AreKept room rooms clients → AreKept room rooms given
beside_kept room rooms clients given footprint is fits held = all_kept room rooms clients given (client_beside footprint) is (all_beside rooms footprint (map client_of clients)) fits held

-- that have begun nothing, so that they write nothing
reset_room : (rooms : ℕ → Bool) (clients : List ClientBoard) → HaveRoomToWrite rooms (footprints_of (map reset_client clients))
reset_room rooms [] = tt
reset_room rooms (client ∷ clients) = (λ writes. absurd (cc (writes)), reset_room rooms clients)

pub reset_kept : (room : ℕ) (rooms : ℕ → Bool) (clients new : List ClientState) → map client_of new ≡ map reset_client (map client_of clients)
    → (ClientsHaveRoom room clients → ClientsHaveRoom room new) → AreKept room rooms clients → AreKept room rooms new
reset_kept room rooms clients new is fits held = all_kept room rooms clients new reset_client is (λ good. reset_room rooms (map client_of clients)) fits held

-- of which those are hit that share a byte with a burst
pub hit_kept : (room : ℕ) (rooms : ℕ → Bool) (clients new : List ClientState) (span : Span) → map client_of new ≡ map (hit_client span) (map client_of clients)
    → (ClientsHaveRoom room clients → ClientsHaveRoom room new) → AreKept room rooms clients → AreKept room rooms new
hit_kept room rooms clients new span is fits held = all_kept room rooms clients new (hit_client span) is (all_hit rooms span (map client_of clients)) fits held

-- ---- a request that is taken in

pub put_there : (state : BoardState) (number : ℕ) (found new : ClientState) (joining : FlightState) (replied : Bool) → client_of new ≡ with_whole replied (flight_of state.joining) (client_of found)
    → board_of (record state { clients = set state.clients number new; joining = joining }) ≡ with_client number (with_whole replied (flight_of state.joining) (client_of found)) (board_of state)
put_there state number found new joining replied is =
    ap {B = Board} (λ (clients : List ClientBoard). record (board_of state) { clients = clients }) (map-set client_of state.clients number new ∙ ap (set (map client_of state.clients) number) is)

-- a board with what a request changes that is carried out
abbrev pub with_changes : BoardState → BoardState → BoardState
with_changes now old = record old { clients = now.clients; memory = now.memory; joining = now.joining }

-- one was carried out, and nothing changed but this
pub record IsCarriedOut (old now : BoardState) : Type 0 where
  pub rest : now ≡ with_changes now old
  pub memory : memory_of now.memory ≡ carried_out (memory_of old.memory) (request_of old.request)
  pub flight : flight_of now.joining ≡ flight_for (memory_of old.memory) (footprint_of now.joining.footprint) (request_of old.request)

-- the board where a client's request is carried out, and in flight with a footprint, or has ended where its reply came before
abbrev pub taken_as : Bool → Board → ℕ → ClientBoard → WholeRequest → Footprint → Board
taken_as replied board number client q footprint =
    record board {
      clients = set board.clients number (with_whole replied (flight_for board.memory footprint q) client);
      memory = carried_out board.memory q;
    }

put_taken : (old now : BoardState) (number : ℕ) (found : ClientBoard) (replied : Bool) → IsCarriedOut old now
    → with_client number (with_whole replied (flight_of now.joining) found) (board_of now)
    ≡ taken_as replied (record (board_of old) { clients = map client_of now.clients; indeterminate = doubts_of now.memory }) number found (request_of old.request) (footprint_of now.joining.footprint)
put_taken old now number found replied is =
    ap {B = Board} (λ (b : BoardState). put (flight_of now.joining) (record (board_of b) { clients = map client_of now.clients; memory = memory_of now.memory; indeterminate = doubts_of now.memory })) is.rest
    ∙ ap₂ {C = Board} (λ (flight : InFlight) (memory : Memory). put flight (record (board_of old) { clients = map client_of now.clients; memory = memory; indeterminate = doubts_of now.memory })) is.flight is.memory
  where
    put : InFlight → Board → Board
    put flight board = with_client number (with_whole replied flight found) board

-- in its turn
pub turn_taken : (old now : BoardState) (number : ℕ) (found : ClientBoard) (footprint : Footprint) → IsCarriedOut old now
    → now ≡ record old { memory = now.memory; joining = now.joining } → doubts_of now.memory ≡ after_turn (doubts_of old.memory) footprint (bytes_given old.request)
    → footprint_of now.joining.footprint ≡ unless_fixed footprint
    → with_client number (with_accepted (flight_of now.joining) found) (board_of now) ≡ in_turn_on (board_of old) number found (request_of old.request) footprint
turn_taken old now number found footprint is rest marked own =
    put_taken old now number found false is
    ∙ ap (λ (b : BoardState). with_taken (record (board_of old) { clients = map client_of b.clients; indeterminate = doubts_of now.memory }) number found (request_of old.request) (footprint_of now.joining.footprint)) rest
    ∙ ap {B = Board} (λ (indeterminate : ℕ → Bool). with_taken (record (board_of old) { indeterminate = indeterminate }) number found (request_of old.request) (footprint_of now.joining.footprint)) marked
    ∙ ap {B = Board} (λ (kept : Footprint). record (with_taken (board_of old) number found (request_of old.request) kept) { indeterminate = after_turn (doubts_of old.memory) footprint (bytes_given old.request) }) own

-- of one that had begun the bytes are given besides
pub given_taken : (old now : BoardState) (number : ℕ) (found : ClientBoard) (replied : Bool) → replied ≡ has_replied old.errors found → IsCarriedOut old now
    → now ≡ record old { memory = now.memory; joining = now.joining }
    → footprint_of now.joining.footprint ≡ coming_on (board_of old) (request_of old.request) found.coming
    → doubts_of now.memory ≡ after_given (doubts_of old.memory) (footprint_of now.joining.footprint) (bytes_given old.request)
    → with_client number (with_whole replied (flight_of now.joining) found) (board_of now)
    ≡ given_on (board_of old) number found (request_of old.request) (coming_on (board_of old) (request_of old.request) found.coming)
given_taken old now number found replied told is rest footprint marked =
    put_taken old now number found replied is
    ∙ ap (λ (b : BoardState). taken_as replied (record (board_of old) { clients = map client_of b.clients; indeterminate = doubts_of now.memory }) number found (request_of old.request) own_footprint) rest
    ∙ ap {B = Board} (λ (indeterminate : ℕ → Bool). taken_as replied (record (board_of old) { indeterminate = indeterminate }) number found (request_of old.request) own_footprint) marked
    ∙ ap {B = Board}
    (λ (b : Bool). taken_as b (record (board_of old) { indeterminate = after_given (doubts_of old.memory) own_footprint (bytes_given old.request) }) number found (request_of old.request) own_footprint) told
    ∙ ap (given_on (board_of old) number found (request_of old.request)) footprint
  where
    own_footprint : Footprint
    own_footprint = footprint_of now.joining.footprint

-- ---- clients that have given way

-- a client that has given way was there before, and the other way round
module _ (given clients : List ClientBoard) (footprint : Footprint) (number : ℕ) (is : given ≡ map (client_beside footprint) clients) where
  pub is_there : (found : ClientBoard) → slice_get clients number ≡ Some found → slice_get given number ≡ Some (client_beside footprint found)
  is_there found there = ap (λ cs. slice_get cs number) is ∙ slice_get-map (client_beside footprint) clients number ∙ ap (option_map (client_beside footprint)) there

  pub was_there : (P : Type 0) (made : ClientBoard) → slice_get given number ≡ Some made → ((found : ClientBoard) → slice_get clients number ≡ Some found → client_beside footprint found ≡ made → P) → P
  was_there P made there =
      map_some (client_beside footprint) (slice_get clients number) made (sym (ap (λ cs. slice_get cs number) is ∙ slice_get-map (client_beside footprint) clients number) ∙ there)

pub free_beside : (source : ℕ) (footprint : Footprint) (client : ClientBoard) → IsFreeOf source client → IsFreeOf source (client_beside footprint client)
free_beside source footprint client free =
    record { front = free.front; free = any_map (is_of_source source) (flight_beside footprint) client.flights.due ∙ free.free }

-- taken in behind those that have given way, a request has joined them
pub joined_taken : (old now : BoardState) (number : ℕ) (found : ClientBoard) → IsCarriedOut old now
    → footprint_of now.joining.footprint ≡ joining_on (board_of old) (request_of old.request)
    → map client_of now.clients ≡ map (client_beside (footprint_of now.joining.footprint)) (map client_of old.clients)
    → doubts_of now.memory ≡ after_joining (doubts_of old.memory) (footprints_of (map client_of old.clients)) (footprint_of now.joining.footprint) (bytes_given old.request)
    → with_client number (with_accepted (flight_of now.joining) (client_beside (footprint_of now.joining.footprint) found)) (board_of now)
    ≡ joined_on (board_of old) number found (request_of old.request) (joining_on (board_of old) (request_of old.request))
joined_taken old now number found is footprint given marked =
    put_taken old now number (client_beside own_footprint found) false is
    ∙ ap₂ {C = Board} (λ (clients : List ClientBoard) (indeterminate : ℕ → Bool). with_taken (record (board_of old) { clients = clients; indeterminate = indeterminate }) number (client_beside own_footprint found) (request_of old.request) own_footprint) given marked
    ∙ ap (joined_on (board_of old) number found (request_of old.request)) footprint
  where
    own_footprint : Footprint
    own_footprint = footprint_of now.joining.footprint

-- where a request acts isn't told by its client
place_same : (errors : Errors) (memory : Memory) (one other : ℕ) (beat : ABeat)
    → place_in memory (acting errors (request_of (begun one beat))) ≡ place_in memory (acting errors (request_of (begun other beat)))
place_same Strict memory one other beat = refl
place_same Any memory one other beat = refl

-- nor whether it fails
fails_same : (errors : Errors) (memory : Memory) (one other : ℕ) (beat : ABeat)
    → fails errors memory (request_of (begun one beat)) ≡ fails errors memory (request_of (begun other beat))
fails_same Strict memory one other beat = refl
fails_same Any memory one other beat = refl

pub joining_same : (board : Board) (one other : ℕ) (beat : ABeat) → joining_on board (request_of (begun one beat)) ≡ joining_on board (request_of (begun other beat))
joining_same board one other beat =
    ap₂ (λ failed place. unless_failed failed (joining board.indeterminate (footprints_of board.clients) place (request_of (begun other beat))))
    (fails_same board.errors board.memory one other beat) (place_same board.errors board.memory one other beat)

-- nor what may come early
pub early_same : (errors : Errors) (one other : ℕ) (beat : ABeat) → early_due errors (request_of (begun one beat)) ≡ early_due errors (request_of (begun other beat))
early_same Strict one other beat = refl
early_same Any one other beat = refl

-- behind those that have given way, a request has begun
pub begun_behind : (old : BoardState) (given : List ClientState) (marks : MemoryState) (request : HeldMessage) (joining : FlightState) (number : ℕ) (found : ClientBoard) (new : ClientState) (footprint : Footprint)
    → map client_of given ≡ map (client_beside footprint) (map client_of old.clients)
    → memory_of marks ≡ memory_of old.memory
    → doubts_of marks ≡ beside_dependent (doubts_of old.memory) footprint (footprints_of (map client_of old.clients))
    → client_of new ≡ record (client_beside footprint found) { coming = footprint }
    → board_of (record old { clients = set given number new; memory = marks; request = request; joining = joining }) ≡ begun_on (board_of old) number found footprint
begun_behind old given marks request joining number found new footprint gives same marked is =
    ap {B = Board} (λ (memory : Memory). record (board_of old) { clients = map client_of (set given number new); memory = memory; indeterminate = doubts_of marks }) same
    ∙ ap₂ {C = Board} (λ (clients : List ClientBoard) (indeterminate : ℕ → Bool). record (board_of old) { clients = clients; indeterminate = indeterminate })
    (map-set client_of given number new ∙ ap₂ (λ (clients : List ClientBoard) (client : ClientBoard). set clients number client) gives is)
    (marked ∙ ap (λ (m : ℕ → Bool). beside_dependent m footprint (footprints_of (map client_of old.clients))) (sym (nothing_given (doubts_of old.memory) footprint)))

-- ---- room

-- where a request has room as it may act, it has room as it acts
pub room_plain : (errors : Errors) (state : MemoryState) (q : WholeRequest) → HasRoomToGive state (acting errors q) → HasRoomToGive state q
room_plain Strict state q room = room
room_plain Any state q room = λ carries. by_corrupt carries q.corrupt refl
  where
    by_corrupt : has_data q.operation ≡ true → (b : Bool) → q.corrupt ≡ b → IfSome (place_in (memory_of state) q) (λ address. rooms_of state (address / 4096) ≡ true)
    by_corrupt carries true is = rw is tt
    by_corrupt carries false is = rw is (room carries)

-- and the page at which it may act has it, if it gives bytes
pub room_acting : (errors : Errors) (state : MemoryState) (q : WholeRequest) → HasRoomToGive state (acting errors q) → has_data q.operation ≡ true
    → IfSome (place_in (memory_of state) (acting errors q)) (λ address. rooms_of state (address / 4096) ≡ true)
room_acting Strict state q room = room
room_acting Any state q room = room
