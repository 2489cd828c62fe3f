-- The client that is there fails.
use Rattle.std.proofs.Common.{◌≡◌, Some, ap, rules, subst, sym, ◌∙◌}
use Rattle.std.specs.Prelude.{slice_get}
use Rattle.std.proofs.lemmas.List.{map-set}
use Rattle.tl_messages.specs.Requests.{request_of}
use Rattle.serial_memory.specs.SerialMemory.{rooms_of}
use Rattle.scoreboard.specs.Boards.{Board, ClientBoard, client_footprints, is_spoiled, with_client}
use Rattle.scoreboard.specs.InsideBoards.{HaveRoomToWrite, BoardState, ClientState, board_of, client_of, determined_in, most_words}
use Rattle.scoreboard.specs.Races.{unless_failed}
use Rattle.scoreboard.specs.contracts.board.Scoreboard.{the_view}
use Rattle.scoreboard.proofs.held.BoardSteps.{client_is, client_kept, there_at}
use Rattle.scoreboard.proofs.held.ClientFootprints.{room_told}
use Rattle.scoreboard.proofs.board.Scoreboard.fail_if_corrupt.Goals as goal

there : (c : goal.After-self-1) → slice_get c.self.inside.clients.items c.args.client ≡ Some c.index_mut.result.now
there c = there_at c.self.inside.clients.items c.args.client c.index_mut.result.now (search rules) c.index_mut.ensures.value

pub invariant_of-self : goal.invariant_of-self
invariant_of-self c =
    let rooms = rooms_of c.self.inside.serial in
    let found = c.index_mut.result.now in
    let new = c.go_on.new.self in
    let kept = client_kept most_words rooms c.self.inside.clients.items c.args.client found new (there c) (ap (λ (client : ClientState). client.flights.room) c.go_on.ensures.rest)
    (λ good. subst (λ (client : ClientState). HaveRoomToWrite rooms (client_footprints (client_of client))) (sym c.go_on.ensures.rest)
    (room_told rooms new.coming.failed (determined_in (record found.coming { failed = new.coming.failed; determined = new.coming.determined })) (client_of found) good))
    (c.self.invariant.0, c.self.invariant.1, c.self.invariant.3) in
    (kept.0, kept.1, c.self.invariant.2, kept.2)

pub returns-clause-state : goal.returns-clause-state
returns-clause-state c found message is begun =
    let board = board_of (the_view c.self.inside) in
    let one = c.index_mut.result.now in
    let same = client_is c.self.inside.clients.items c.args.client one found (there c) (ap (λ (b : BoardState). slice_get (board_of b).clients c.args.client) c.self.view_is ∙ is) in
    ap {B = Board} (λ clients. record board { clients = clients }) (map-set client_of c.self.inside.clients.items c.args.client c.go_on.new.self)
    ∙ ap (λ (client : ClientBoard). with_client c.args.client client board) (c.go_on.ensures.client message (ap (λ (client : ClientBoard). client.front) same ∙ begun))
    ∙ ap (λ (client : ClientBoard). with_client c.args.client (record client { coming = unless_failed (is_spoiled c.self.inside.errors (request_of message)) client.coming }) board) same
    ∙ ap (λ (b : BoardState). with_client c.args.client (record found { coming = unless_failed (is_spoiled b.errors (request_of message)) found.coming }) (board_of b)) c.self.view_is
