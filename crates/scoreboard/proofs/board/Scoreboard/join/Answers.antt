-- It joins by its parts.
use Rattle.std.proofs.Common.{◌≡◌, ℕ, Bool, List, ap, ap₂, arith, length, map, rules, subst, sym, ◌∙◌}
use Rattle.std.specs.Vec.{with_items}
use Rattle.std.proofs.lemmas.List.{places, with_items_is}
use Rattle.tl_messages.specs.Requests.{bytes_given, request_of}
use Rattle.scoreboard.specs.Boards.{acting, client_beside, fails, flight_for, footprints_of, joining_on, place_on}
use Rattle.scoreboard.specs.Flights.{Footprint}
use Rattle.scoreboard.specs.InsideBoards.{BoardState, ClientState, ClientsHaveRoom, FlightState, FootprintState, HasRoomToWrite, HaveRoomToWrite, board_of, client_of, footprint_of, most_words}
use Rattle.scoreboard.specs.Races.{after_joining, alone, beside_all, joining, unless_failed}
use Rattle.serial_memory.specs.SerialMemory.{HasRoomToGive, IsCheckedRequest, doubts_of, memory_of, rooms_of}
use Rattle.scoreboard.specs.contracts.board.Scoreboard.{the_view}
use Rattle.scoreboard.proofs.held.BoardSteps.{beside_kept, room_acting, room_plain}
use Rattle.scoreboard.proofs.held.ClientFootprints.{room_joining}
use Rattle.scoreboard.proofs.held.Failed.{failed_by, flight_failed}
use Rattle.scoreboard.proofs.held.FootprintBytes.{few_bytes}
use Rattle.serial_memory.proofs.RequestWords.{own_range, placed_range}
use Rattle.scoreboard.proofs.board.Scoreboard.join.Goals.{After-deref-2}
use Rattle.scoreboard.proofs.board.Scoreboard.join.Goals as goal

checked : (c : goal.After-start_footprint-arg-1) → IsCheckedRequest c.self.inside.request
checked c = subst IsCheckedRequest (sym (ap (λ (b : BoardState). b.request) c.self.view_is)) c.requires.checked

pub start_footprint-requires-clause-range : goal.start_footprint-requires-clause-range
start_footprint-requires-clause-range c =
    placed_range c.self.inside.request.address c.self.inside.request.size c.place_of-place.result (own_range c.self.inside.request (checked c)) c.place_of-place.ensures.same_byte

pub start_footprint-requires-clause-room : goal.start_footprint-requires-clause-room
start_footprint-requires-clause-room c =
    let policy = ap (λ (b : BoardState). b.policy) c.self.view_is ∙ c.requires.policy in
    let room = c.self.invariant.2 in
    omega (arith, few_bytes c.self.inside.request.size (own_range c.self.inside.request (checked c)).small, room)

held : (c : goal.After-self-1) → (with_items c.self.inside.clients c.give_way.new.clients).items ≡ c.give_way.new.clients
held c = with_items_is c.self.inside.clients c.give_way.new.clients (search (rules, places))

-- the clients that give way are all of them
given : (c : goal.After-self-1) → map client_of c.give_way.new.clients ≡ map (client_beside (footprint_of c.fail_by.new.self.footprint)) (map client_of c.self.inside.clients.items)
given c =
    c.give_way.ensures.clients
    ∙ ap₂ (λ (f : FootprintState) (cs : List ClientState). map (client_beside (footprint_of f)) (map client_of cs)) c.footprint-footprint.ensures c.deref_mut.ensures.value

pub invariant_of-self : goal.invariant_of-self
invariant_of-self c =
    let clients = c.self.inside.clients.items in
    let room = most_words in
    let rooms = rooms_of c.self.inside.serial in
    let room_is = ap (λ (f : FlightState). length f.footprint.determined) c.carry_out.ensures.flight in
    let kept = beside_kept room rooms clients c.give_way.new.clients (footprint_of c.fail_by.new.self.footprint) (given c)
    (λ have. c.give_way.ensures.room room (subst (ClientsHaveRoom room) (sym c.deref_mut.ensures.value) have)) (c.self.invariant.0, c.self.invariant.1, c.self.invariant.3) in (
      rw (held c) kept.0,
      rw (held c) kept.1,
      c.fail_by.ensures.room ∙ room_is ∙ c.limit.ensures.room ∙ c.start_footprint.ensures.room ∙ c.self.invariant.2,
      rw (held c) (subst (λ (r : ℕ → Bool). HaveRoomToWrite r (footprints_of (map client_of c.give_way.new.clients))) (sym (c.mark_written.ensures.rest.rooms ∙ c.carry_out.ensures.rooms)) kept.2),
    )

-- its footprint, on the board as it is held
joined : (c : goal.After-self-1) → footprint_of c.limit.new.joined.footprint
    ≡ joining (doubts_of c.self.inside.serial) (footprints_of (map client_of c.self.inside.clients.items)) (place_on (board_of (the_view c.self.inside)) (request_of c.self.inside.request))
    (request_of c.self.inside.request)
joined c =
    c.limit.ensures.footprint
    ∙ ap₂ (λ (f : Footprint) (cs : List ClientState). beside_all f (footprints_of (map client_of cs)))
    (c.start_footprint.ensures.footprint ∙ ap (λ place. alone (doubts_of c.self.inside.serial) place (request_of c.self.inside.request)) c.place_of-place.ensures.place)
    c.deref.ensures.value

pub returns-clause-footprint : goal.returns-clause-footprint
returns-clause-footprint c =
    let memory = memory_of c.self.inside.serial in
    failed_by c.self.inside.errors memory c.self.inside.request c.place_of-place.result c.limit.new.joined.footprint c.carry_out.new.self c.fail_by.new.self
    c.place_of-place.ensures.place c.carry_out.ensures.flight c.fail_by.ensures.footprint
    ∙ ap (unless_failed (fails c.self.inside.errors memory (request_of c.self.inside.request))) (joined c)
    ∙ ap (λ (b : BoardState). joining_on (board_of b) (request_of b.request)) c.self.view_is

pub returns-clause-bytes : goal.returns-clause-bytes
returns-clause-bytes c =
    c.mark_written.ensures.bytes
    ∙ ap (λ (d : ℕ → Bool). after_joining d (footprints_of (map client_of c.deref-2.result.now)) (footprint_of c.footprint-footprint.result.now) (bytes_given c.self.inside.request)) c.carry_out.ensures.doubts
    ∙ ap₂ (λ (f : FootprintState) (cs : List ClientState). after_joining (doubts_of c.self.inside.serial) (footprints_of (map client_of cs)) (footprint_of f) (bytes_given c.self.inside.request))
    c.footprint-footprint.ensures c.deref-2.ensures.value
    ∙ ap (λ (b : BoardState). after_joining (doubts_of b.memory) (footprints_of (map client_of b.clients)) (footprint_of c.fail_by.new.self.footprint) (bytes_given b.request)) c.self.view_is

pub returns-clause-clients : goal.returns-clause-clients
returns-clause-clients c =
    ap (map client_of) (held c) ∙ given c
    ∙ ap (λ (b : BoardState). map (client_beside (footprint_of c.fail_by.new.self.footprint)) (board_of b).clients) c.self.view_is

pub returns-clause-flight : goal.returns-clause-flight
returns-clause-flight c =
    flight_failed (memory_of c.self.inside.serial) c.self.inside.request c.limit.new.joined.footprint c.carry_out.new.self c.fail_by.new.self c.carry_out.ensures.flight c.fail_by.ensures.rest
    ∙ ap (λ (b : BoardState). flight_for (memory_of b.memory) (footprint_of c.fail_by.new.self.footprint) (request_of b.request)) c.self.view_is

-- it has room to write
own_room : (c : After-deref-2) → HasRoomToWrite (rooms_of c.self.inside.serial) (footprint_of c.fail_by.new.self.footprint)
own_room c =
    let rooms = rooms_of c.self.inside.serial in
    let q = request_of c.self.inside.request in
    let has : FlightState → Type 0 = λ flight. HasRoomToWrite rooms (footprint_of flight.footprint) in
    let room = subst (λ (b : BoardState). HasRoomToGive b.memory (acting b.errors (request_of b.request))) (sym c.self.view_is) c.requires.room in
    let footprint : footprint_of c.limit.new.joined.footprint ≡ joining (doubts_of c.self.inside.serial) (footprints_of (map client_of c.self.inside.clients.items)) (place_on (board_of (the_view c.self.inside)) q) q =
    c.limit.ensures.footprint
    ∙ ap₂ (λ (f : Footprint) (cs : List ClientState). beside_all f (footprints_of (map client_of cs)))
    (c.start_footprint.ensures.footprint ∙ ap (λ place. alone (doubts_of c.self.inside.serial) place q) c.place_of-place.ensures.place)
    c.deref.ensures.value in
    let first = subst (HasRoomToWrite rooms) (sym footprint)
    (room_joining rooms (doubts_of c.self.inside.serial) (footprints_of (map client_of c.self.inside.clients.items)) (place_on (board_of (the_view c.self.inside)) q) q
    (room_acting c.self.inside.errors c.self.inside.serial q room)) in
    subst has (sym c.fail_by.ensures.rest) (subst has (sym c.carry_out.ensures.flight) first)

pub carry_out-requires-clause-room : goal.carry_out-requires-clause-room
carry_out-requires-clause-room c =
    room_plain c.self.inside.errors c.self.inside.serial (request_of c.self.inside.request)
    (subst (λ (b : BoardState). HasRoomToGive b.memory (acting b.errors (request_of b.request))) (sym c.self.view_is) c.requires.room)

pub mark_written-requires-clause-own_room : goal.mark_written-requires-clause-own_room
mark_written-requires-clause-own_room c =
    rw c.footprint-footprint.ensures (subst (λ rooms. HasRoomToWrite rooms (footprint_of c.fail_by.new.self.footprint)) (sym c.carry_out.ensures.rooms) (own_room c))

pub returns-clause-room : goal.returns-clause-room
returns-clause-room c = subst (λ rooms. HasRoomToWrite rooms (footprint_of c.fail_by.new.self.footprint)) (sym (c.mark_written.ensures.rest.rooms ∙ c.carry_out.ensures.rooms)) (own_room (goal.at.returns-clause-room c).After-deref-2)
