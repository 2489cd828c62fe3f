-- It is carried out in its turn.
use Rattle.std.proofs.Common.{ap, sym, ◌∙◌}
use Rattle.std.specs.Prelude.{slice_get}
use Rattle.tl_messages.specs.Requests.{request_of}
use Rattle.scoreboard.specs.Flights.{InFlight}
use Rattle.scoreboard.specs.InsideBoards.{BoardState, board_of}
use Rattle.scoreboard.specs.Races.{alone}
use Rattle.serial_memory.specs.SerialMemory.{doubts_of, memory_of, place_in}
use Rattle.scoreboard.proofs.held.BoardSteps.{room_plain, turn_taken, with_changes}
use Rattle.scoreboard.proofs.board.Scoreboard.accept_in_order.Goals as goal

pub put_in-requires-clause-free : goal.put_in-requires-clause-free
put_in-requires-clause-free c found there =
    rw (ap (λ (f : InFlight). f.source) c.take_turn.ensures.flight) (c.requires.free found (ap (λ (b : BoardState). slice_get (board_of b).clients c.args.client) (sym c.take_turn.ensures.rest) ∙ there))

pub take_turn-requires-clause-room : goal.take_turn-requires-clause-room
take_turn-requires-clause-room c = room_plain c.args.self.now.errors c.args.self.now.memory (request_of c.args.self.now.request) c.requires.room

pub returns-clause-state : goal.returns-clause-state
returns-clause-state c found is =
    let old = c.args.self.now in
    let now = c.take_turn.new.self in
    let q = request_of old.request in
    c.put_in.ensures.state found (ap (λ (b : BoardState). slice_get (board_of b).clients c.args.client) c.take_turn.ensures.rest ∙ is)
    ∙ turn_taken old now c.args.client found (alone (doubts_of old.memory) (place_in (memory_of old.memory) q) q)
    (record { rest = ap (with_changes now) c.take_turn.ensures.rest; memory = c.take_turn.ensures.memory; flight = c.take_turn.ensures.flight })
    c.take_turn.ensures.rest c.take_turn.ensures.bytes c.take_turn.ensures.footprint
