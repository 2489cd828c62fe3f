-- It keeps of its footprint what was determined all the while.
use Rattle.std.proofs.Common.{◌≡◌, [], ap, ap₂, arith, rules, subst, sym, ◌∙◌}
use Rattle.std.specs.Prelude.{slice_get}
use Rattle.tl_messages.specs.Requests.{request_of}
use Rattle.scoreboard.specs.Boards.{ClientBoard, acting, coming_on, fails, flight_for, kept_from, place_on}
use Rattle.scoreboard.specs.Flights.{Footprint}
use Rattle.scoreboard.specs.InsideBoards.{BoardState, FlightState, HasRoomToWrite, board_of, footprint_of}
use Rattle.scoreboard.specs.Races.{alone, unless_failed}
use Rattle.serial_memory.specs.SerialMemory.{HasRoomToGive, IsCheckedRequest, doubts_of, memory_of, rooms_of}
use Rattle.scoreboard.specs.contracts.board.Scoreboard.{the_view}
use Rattle.scoreboard.proofs.held.BoardSteps.{client_is, room_acting, room_plain, there_at}
use Rattle.scoreboard.proofs.held.ClientFootprints.{room_joining}
use Rattle.scoreboard.proofs.held.Failed.{failed_by, failed_kept, flight_failed}
use Rattle.scoreboard.proofs.held.FootprintBytes.{few_bytes}
use Rattle.serial_memory.proofs.RequestWords.{own_range, placed_range}
use Rattle.scoreboard.proofs.board.Scoreboard.give.Goals.{After-footprint}
use Rattle.scoreboard.proofs.board.Scoreboard.give.Goals as goal

checked : (c : goal.After-start_footprint-arg-1) → IsCheckedRequest c.self.inside.request
checked c = subst IsCheckedRequest (sym (ap (λ (b : BoardState). b.request) c.self.view_is)) c.requires.checked

pub start_footprint-requires-clause-range : goal.start_footprint-requires-clause-range
start_footprint-requires-clause-range c =
    placed_range c.self.inside.request.address c.self.inside.request.size c.place_of-place.result (own_range c.self.inside.request (checked c)) c.place_of-place.ensures.same_byte

pub start_footprint-requires-clause-room : goal.start_footprint-requires-clause-room
start_footprint-requires-clause-room c =
    let policy = ap (λ (b : BoardState). b.policy) c.self.view_is ∙ c.requires.policy in
    let room = c.self.invariant.2 in
    omega (arith, few_bytes c.self.inside.request.size (own_range c.self.inside.request (checked c)).small, room)

pub returns-clause-footprint : goal.returns-clause-footprint
returns-clause-footprint c found is =
    let clients = c.self.inside.clients.items in
    let one = c.index.result.now in
    let there = there_at clients c.args.client one (search rules) c.index.ensures in
    let same = client_is clients c.args.client one found there (ap (λ (b : BoardState). slice_get (board_of b).clients c.args.client) c.self.view_is ∙ is) in
    let start = c.start_footprint.ensures.footprint ∙ ap (λ place. alone (doubts_of c.self.inside.serial) place (request_of c.self.inside.request)) c.place_of-place.ensures.place in
    let kept = c.keep.ensures.footprint ∙ ap₂ (λ (coming footprint : Footprint). kept_from coming footprint) (ap (λ (client : ClientBoard). client.coming) same) start in
    let memory = memory_of c.self.inside.serial in
    let failed = fails c.self.inside.errors memory (request_of c.self.inside.request) in
    failed_by c.self.inside.errors memory c.self.inside.request c.place_of-place.result c.keep.new.flight.footprint c.carry_out.new.self c.fail_by.new.self
    c.place_of-place.ensures.place c.carry_out.ensures.flight c.fail_by.ensures.footprint
    ∙ ap (unless_failed failed) kept
    ∙ failed_kept failed found.coming (alone (doubts_of c.self.inside.serial) (place_on (board_of (the_view c.self.inside)) (request_of c.self.inside.request)) (request_of c.self.inside.request))
    ∙ ap (λ (b : BoardState). coming_on (board_of b) (request_of b.request) found.coming) c.self.view_is

pub returns-clause-flight : goal.returns-clause-flight
returns-clause-flight c =
    flight_failed (memory_of c.self.inside.serial) c.self.inside.request c.keep.new.flight.footprint c.carry_out.new.self c.fail_by.new.self c.carry_out.ensures.flight c.fail_by.ensures.rest
    ∙ ap (λ (b : BoardState). flight_for (memory_of b.memory) (footprint_of c.fail_by.new.self.footprint) (request_of b.request)) c.self.view_is

-- it has room to write
own_room : (c : After-footprint) → HasRoomToWrite (rooms_of c.self.inside.serial) (footprint_of c.fail_by.new.self.footprint)
own_room c =
    let rooms = rooms_of c.self.inside.serial in
    let q = request_of c.self.inside.request in
    let has : FlightState → Type 0 = λ flight. HasRoomToWrite rooms (footprint_of flight.footprint) in
    let room = subst (λ (b : BoardState). HasRoomToGive b.memory (acting b.errors (request_of b.request))) (sym c.self.view_is) c.requires.room in
    let start : footprint_of c.start_footprint.new.self.footprint ≡ alone (doubts_of c.self.inside.serial) (place_on (board_of (the_view c.self.inside)) q) q =
    c.start_footprint.ensures.footprint ∙ ap (λ place. alone (doubts_of c.self.inside.serial) place q) c.place_of-place.ensures.place in
    let first = subst (HasRoomToWrite rooms) (sym start) (room_joining rooms (doubts_of c.self.inside.serial) [] (place_on (board_of (the_view c.self.inside)) q) q (room_acting c.self.inside.errors c.self.inside.serial q room)) in
    let kept = subst (HasRoomToWrite rooms) (sym c.keep.ensures.footprint) first in
    subst has (sym c.fail_by.ensures.rest) (subst has (sym c.carry_out.ensures.flight) kept)

pub carry_out-requires-clause-room : goal.carry_out-requires-clause-room
carry_out-requires-clause-room c =
    room_plain c.self.inside.errors c.self.inside.serial (request_of c.self.inside.request)
    (subst (λ (b : BoardState). HasRoomToGive b.memory (acting b.errors (request_of b.request))) (sym c.self.view_is) c.requires.room)

pub mark_own-requires-clause-own_room : goal.mark_own-requires-clause-own_room
mark_own-requires-clause-own_room c =
    rw c.footprint.ensures (subst (λ rooms. HasRoomToWrite rooms (footprint_of c.fail_by.new.self.footprint)) (sym c.carry_out.ensures.rooms) (own_room c))

pub returns-clause-room : goal.returns-clause-room
returns-clause-room c = subst (λ rooms. HasRoomToWrite rooms (footprint_of c.fail_by.new.self.footprint)) (sym (c.mark_own.ensures.rest.rooms ∙ c.carry_out.ensures.rooms)) (own_room (goal.at.returns-clause-room c).After-footprint)
