-- The client that is there gets it.
use Rattle.std.proofs.Common.{◌≡◌, Some, ap, rules, subst, sym, ◌∙◌, arith}
use Rattle.std.proofs.lemmas.Grind.{common_steps}
use Rattle.std.specs.Prelude.{slice_get}
use Rattle.bus_words.proofs.PlaceChanges.{all-got}
use Rattle.serial_memory.specs.SerialMemory.{rooms_of}
use Rattle.scoreboard.specs.Boards.{ClientBoard, client_footprints, with_client, with_whole}
use Rattle.scoreboard.specs.InsideBoards.{HaveRoomToWrite, BoardState, ClientState, IsFreeOf, HasRoomToWrite, board_of, client_of, flight_of, footprint_of, most_words}
use Rattle.scoreboard.specs.contracts.board.Scoreboard.{the_view}
use Rattle.scoreboard.proofs.held.BoardSteps.{client_is, client_kept, client_there, put_there, there_at}
use Rattle.scoreboard.proofs.held.ClientFootprints.{room_with_whole}
use Rattle.scoreboard.proofs.board.Scoreboard.put_in.Goals as goal

free : (c : goal.After-index_mut) → IsFreeOf c.self.inside.joining.source (client_of c.index_mut.result.now)
free c =
    let found = c.index_mut.result.now in
    let there = there_at c.self.inside.clients.items c.args.client found (search rules) c.index_mut.ensures.value in
    subst (λ (b : BoardState). (one : ClientBoard) → slice_get (board_of b).clients c.args.client ≡ Some one → IsFreeOf b.joining.source one) (sym c.self.view_is) c.requires.free (client_of found)
    (client_there c.self.inside.clients.items c.args.client found there)

pub join-requires-clause-front : goal.join-requires-clause-front
join-requires-clause-front c = (free c).front

pub join-requires-clause-free : goal.join-requires-clause-free
join-requires-clause-free c = (free c).free

still : (c : goal.After-self-1) → slice_get c.self.inside.clients.items c.args.client ≡ Some c.index_mut.result.now
still c = there_at c.self.inside.clients.items c.args.client c.index_mut.result.now (search rules) c.index_mut.ensures.value

pub invariant_of-self : goal.invariant_of-self
invariant_of-self c =
    let room = most_words in
    let clients = c.self.inside.clients.items in
    let found = c.index_mut.result.now in
    let rooms = rooms_of c.self.inside.serial in
    let good = subst (λ (b : BoardState). HasRoomToWrite (rooms_of b.memory) (footprint_of b.joining.footprint)) (sym c.self.view_is) c.requires.room in
    let kept = client_kept room rooms clients c.args.client found c.join.new.self (still c) c.join.ensures.own_room
    (λ own_good. subst (λ (client : ClientBoard). HaveRoomToWrite rooms (client_footprints client)) (sym c.join.ensures.client)
    (room_with_whole rooms c.args.replied (flight_of c.self.inside.joining) (client_of found) own_good good))
    (c.self.invariant.0, c.self.invariant.1, c.self.invariant.3) in (
      kept.0,
      kept.1,
      c.join.ensures.room ∙ all-got (λ (client : ClientState). client.flights.room ≡ room) clients c.args.client found c.self.invariant.1 (still c),
      kept.2,
    )

pub returns-clause-state : goal.returns-clause-state
returns-clause-state c found is =
    let one = c.index_mut.result.now in
    let there = ap (λ (b : BoardState). slice_get (board_of b).clients c.args.client) c.self.view_is ∙ is in
    let same = client_is c.self.inside.clients.items c.args.client one found (still c) there in
    put_there (the_view c.self.inside) c.args.client one c.join.new.self c.join.new.flight c.args.replied c.join.ensures.client
    ∙ ap (λ (client : ClientBoard). with_client c.args.client (with_whole c.args.replied (flight_of c.self.inside.joining) client) (board_of (the_view c.self.inside))) same
    ∙ ap (λ (b : BoardState). with_client c.args.client (with_whole c.args.replied (flight_of b.joining) found) (board_of b)) c.self.view_is

pub join-requires-clause-room : goal.join-requires-clause-room
join-requires-clause-room c = grind (arith, common_steps)
