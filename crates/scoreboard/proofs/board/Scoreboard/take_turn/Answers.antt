-- Where all is known no footprint is kept, and all stays known; else what it gives is known where all that it read is.
use Rattle.std.proofs.Common.{◌≡◌, false, [], ap, arith, subst, sym, ◌∙◌}
use Rattle.std.proofs.lemmas.Grind.{common_steps}
use Rattle.tl_messages.specs.Requests.{bytes_given, request_of}
use Rattle.scoreboard.specs.Flights.{Footprint}
use Rattle.scoreboard.specs.InTurn.{after_turn, unless_fixed}
use Rattle.scoreboard.specs.InsideBoards.{BoardState, FlightState, HasRoomToWrite, footprint_of}
use Rattle.scoreboard.specs.Races.{after_given, alone}
use Rattle.serial_memory.specs.SerialMemory.{IsCheckedRequest, doubts_of, memory_of, place_in, rooms_of}
use Rattle.serial_memory.proofs.PutWords.{length-bytes_given}
use Rattle.serial_memory.proofs.RequestWords.{own_range, placed_range}
use Rattle.scoreboard.proofs.acceptance_order.Fixed.{given_in_turn, kept_known_of, known_after_of, known_alone, room_unless_fixed}
use Rattle.scoreboard.proofs.held.ClientFootprints.{room_joining}
use Rattle.scoreboard.proofs.held.FootprintBytes.{few_bytes}
use Rattle.scoreboard.proofs.board.Scoreboard.take_turn.Goals.{After-footprint}
use Rattle.scoreboard.proofs.board.Scoreboard.take_turn.Goals as goal

-- what a request does where it takes effect in its turn
abbrev acts_in : BoardState → Footprint
acts_in b = alone (doubts_of b.memory) (place_in (memory_of b.memory) (request_of b.request)) (request_of b.request)

pub returns-then-knows_all-clause-footprint : goal.returns-then-knows_all-clause-footprint
returns-then-knows_all-clause-footprint c =
    let q = request_of c.self.inside.request in
    let b = c.self.inside in
    ap (λ (flight : FlightState). footprint_of flight.footprint) c.carry_out.ensures.flight
    ∙ c.start_known_footprint.ensures.footprint
    ∙ ap (λ place. known_alone place q) c.place-place.ensures.place
    ∙ kept_known_of (doubts_of b.serial) (c.knows_all.ensures c.if-knows_all.true) (place_in (memory_of b.serial) q) q
    ∙ ap (λ (b : BoardState). unless_fixed (acts_in b)) c.self.view_is

pub returns-then-knows_all-clause-bytes : goal.returns-then-knows_all-clause-bytes
returns-then-knows_all-clause-bytes c =
    let q = request_of c.self.inside.request in
    let b = c.self.inside in
    c.carry_out.ensures.doubts
    ∙ known_after_of (doubts_of b.serial) (c.knows_all.ensures c.if-knows_all.true) (place_in (memory_of b.serial) q) q
    ∙ ap (λ (b : BoardState). after_turn (doubts_of b.memory) (acts_in b) (bytes_given b.request)) c.self.view_is

checked : (c : goal.After-start_footprint-arg-1) → IsCheckedRequest c.self.inside.request
checked c = subst IsCheckedRequest (sym (ap (λ (b : BoardState). b.request) c.self.view_is)) c.requires.checked

pub start_known_footprint-requires-clause-range : goal.start_known_footprint-requires-clause-range
start_known_footprint-requires-clause-range c =
    let request = c.self.inside.request in
    let checked_one = subst IsCheckedRequest (sym (ap (λ (b : BoardState). b.request) c.self.view_is)) c.requires.checked in
    placed_range request.address request.size c.place-place.result (own_range request checked_one) c.place-place.ensures.same_byte

pub start_known_footprint-requires-clause-room : goal.start_known_footprint-requires-clause-room
start_known_footprint-requires-clause-room c =
    let request = c.self.inside.request in
    let checked_one = subst IsCheckedRequest (sym (ap (λ (b : BoardState). b.request) c.self.view_is)) c.requires.checked in
    omega (arith, few_bytes request.size (own_range request checked_one).small, c.self.invariant.2)

pub returns-then-knows_all-clause-room : goal.returns-then-knows_all-clause-room
returns-then-knows_all-clause-room c =
    let b = c.args.self.now in
    let q = request_of b.request in
    let place = place_in (memory_of b.memory) q in
    let own : footprint_of c.carry_out.new.self.footprint ≡ known_alone place q =
    ap (λ (flight : FlightState). footprint_of flight.footprint) c.carry_out.ensures.flight
    ∙ c.start_known_footprint.ensures.footprint
    ∙ ap (λ place. known_alone place (request_of c.self.inside.request)) c.place-place.ensures.place
    ∙ ap (λ (b : BoardState). known_alone (place_in (memory_of b.memory) (request_of b.request)) (request_of b.request)) c.self.view_is in
    let rooms = c.carry_out.ensures.rooms ∙ ap (λ (b : BoardState). rooms_of b.memory) c.self.view_is in
    subst (λ rooms_now. HasRoomToWrite rooms_now (footprint_of c.carry_out.new.self.footprint)) (sym rooms)
    (subst (HasRoomToWrite (rooms_of b.memory)) (sym own) (room_joining (rooms_of b.memory) (λ x. false) [] place q c.requires.room))

pub start_footprint-requires-clause-range : goal.start_footprint-requires-clause-range
start_footprint-requires-clause-range c =
    placed_range c.self.inside.request.address c.self.inside.request.size c.place-place.result (own_range c.self.inside.request (checked c)) c.place-place.ensures.same_byte

pub start_footprint-requires-clause-room : goal.start_footprint-requires-clause-room
start_footprint-requires-clause-room c =
    omega (arith, few_bytes c.self.inside.request.size (own_range c.self.inside.request (checked c)).small, c.self.invariant.2)

-- its footprint
own : (c : After-footprint) → footprint_of c.carry_out-2.new.self.footprint ≡ acts_in c.args.self.now
own c =
    ap (λ (flight : FlightState). footprint_of flight.footprint) c.carry_out-2.ensures.flight
    ∙ c.start_footprint.ensures.footprint
    ∙ ap (λ place. alone (doubts_of c.self.inside.serial) place (request_of c.self.inside.request)) c.place-place.ensures.place
    ∙ ap acts_in c.self.view_is

-- it has room to write
own_room : (c : After-footprint) → HasRoomToWrite (rooms_of c.args.self.now.memory) (footprint_of c.carry_out-2.new.self.footprint)
own_room c =
    let b = c.args.self.now in
    let q = request_of b.request in
    subst (HasRoomToWrite (rooms_of b.memory)) (sym (own c)) (room_joining (rooms_of b.memory) (doubts_of b.memory) [] (place_in (memory_of b.memory) q) q c.requires.room)

pub mark_own-requires-clause-own_room : goal.mark_own-requires-clause-own_room
mark_own-requires-clause-own_room c =
    rw c.footprint.ensures
    (subst (λ rooms. HasRoomToWrite rooms (footprint_of c.carry_out-2.new.self.footprint)) (ap (λ (b : BoardState). rooms_of b.memory) (sym c.self.view_is) ∙ sym c.carry_out-2.ensures.rooms) (own_room c))

pub returns-clause-footprint : goal.returns-clause-footprint
returns-clause-footprint c = c.forget_reads_if_fixed.ensures.footprint ∙ ap unless_fixed (own (goal.at.returns-clause-footprint c).After-footprint)

pub returns-clause-room : goal.returns-clause-room
returns-clause-room c =
    let rooms = c.mark_own.ensures.rest.rooms ∙ c.carry_out-2.ensures.rooms ∙ ap (λ (b : BoardState). rooms_of b.memory) c.self.view_is in
    let kept = room_unless_fixed (rooms_of c.args.self.now.memory) (footprint_of c.carry_out-2.new.self.footprint) (own_room (goal.at.returns-clause-room c).After-footprint) in
    subst (λ rooms_now. HasRoomToWrite rooms_now (footprint_of c.forget_reads_if_fixed.new.self.footprint)) (sym rooms)
    (subst (HasRoomToWrite (rooms_of c.args.self.now.memory)) (sym c.forget_reads_if_fixed.ensures.footprint) kept)

pub returns-clause-bytes : goal.returns-clause-bytes
returns-clause-bytes c =
    let b = c.args.self.now in
    let q = request_of b.request in
    let given : BoardState → Footprint → _ = λ state footprint. after_given (doubts_of state.memory) footprint (bytes_given state.request) in
    c.mark_own.ensures.bytes
    ∙ rw (c.carry_out-2.ensures.doubts, c.footprint.ensures, own (goal.at.returns-clause-bytes c).After-footprint) (ap (λ (state : BoardState). after_given (doubts_of state.memory) (acts_in b) (bytes_given state.request)) c.self.view_is)
    ∙ given_in_turn (doubts_of b.memory) (place_in (memory_of b.memory) q) q (length-bytes_given b.request)

pub returns-then-knows_all-clause-flight : goal.returns-then-knows_all-clause-flight
returns-then-knows_all-clause-flight c = grind (arith, common_steps)
