-- The client that is there takes it.
use Rattle.std.proofs.Common.{◌≡◌, Ok, Some, ap, rules, subst, sym, ◌∙◌}
use Rattle.std.specs.Prelude.{slice_get, slice_set}
use Rattle.std.proofs.lemmas.List.{map-set}
use Rattle.bus_words.proofs.StoredPlaces.{get_set}
use Rattle.tl_checker.specs.Ports.{joined}
use Rattle.tl_checker.specs.declared.Progress.{Progress}
use Rattle.serial_memory.specs.SerialMemory.{rooms_of}
use Rattle.scoreboard.specs.Boards.{Board, ClientBoard, answer_to, client_footprints, with_client}
use Rattle.scoreboard.specs.InsideBoards.{HaveRoomToWrite, BoardState, ClientState, IsFreeOf, board_of, client_of, front_after, most_words}
use Rattle.scoreboard.specs.contracts.board.Scoreboard.{the_view}
use Rattle.scoreboard.proofs.held.BoardSteps.{client_is, client_kept, client_there, there_at}
use Rattle.scoreboard.proofs.held.RequestAnswered.{free_whole}
use Rattle.scoreboard.proofs.board.Scoreboard.take_beat.Goals as goal

there : (c : goal.After-self-1) → slice_get c.self.inside.clients.items c.args.client ≡ Some c.index_mut.result.now
there c = there_at c.self.inside.clients.items c.args.client c.index_mut.result.now (search rules) c.index_mut.ensures.value

same : (c : goal.After-self-1) (found : ClientBoard) → slice_get (board_of c.args.self.now).clients c.args.client ≡ Some found → client_of c.index_mut.result.now ≡ found
same c found is =
    client_is c.self.inside.clients.items c.args.client c.index_mut.result.now found (there c) (ap (λ (b : BoardState). slice_get (board_of b).clients c.args.client) c.self.view_is ∙ is)

pub take_beat-requires : goal.take_beat-requires
take_beat-requires c =
    let here = there_at c.self.inside.clients.items c.args.client c.index_mut.result.now (search rules) c.index_mut.ensures.value in
    let found = client_there c.self.inside.clients.items c.args.client c.index_mut.result.now here in
    ap (λ (b : BoardState). answer_to b.policy (client_of c.index_mut.result.now) c.args.beat.now) c.self.view_is
    ∙ c.requires.told (client_of c.index_mut.result.now) (ap (λ (b : BoardState). slice_get (board_of b).clients c.args.client) (sym c.self.view_is) ∙ found)

pub invariant_of-self : goal.invariant_of-self
invariant_of-self c =
    let rooms = rooms_of c.self.inside.serial in
    let kept = client_kept most_words rooms c.self.inside.clients.items c.args.client c.index_mut.result.now c.take_beat.new.self (there c)
    (ap (λ (client : ClientState). client.flights.room) c.take_beat.ensures.client)
    (subst (λ (client : ClientState). HaveRoomToWrite rooms (client_footprints (client_of client))) (sym c.take_beat.ensures.client)) (c.self.invariant.0, c.self.invariant.1, c.self.invariant.3) in
    (kept.0, kept.1, c.self.invariant.2, kept.2)

pub returns-clause-state : goal.returns-clause-state
returns-clause-state c found is =
    let board = board_of (the_view c.self.inside) in
    ap {B = Board} (λ clients. record board { clients = clients }) (map-set client_of c.self.inside.clients.items c.args.client c.take_beat.new.self)
    ∙ ap (λ (client : ClientState). with_client c.args.client (client_of client) board) c.take_beat.ensures.client
    ∙ ap (λ (client : ClientBoard). with_client c.args.client (record client { front = front_after client.front (joined client.limits client.front c.args.beat.now) (Ok c.args.progress) }) board) (same c found is)
    ∙ ap (λ (b : BoardState). with_client c.args.client (record found { front = front_after found.front (joined found.limits found.front c.args.beat.now) (Ok c.args.progress) }) (board_of b)) c.self.view_is

pub returns-clause-request : goal.returns-clause-request
returns-clause-request c found is whole =
    c.take_beat.ensures.request whole ∙ ap (λ (client : ClientBoard). joined client.limits client.front c.args.beat.now) (same c found is)

pub returns-clause-free : goal.returns-clause-free
returns-clause-free c found is whole =
    let clients = c.self.inside.clients.items in
    let new = c.take_beat.new.self in
    subst (IsFreeOf c.take_beat.new.request.source) (client_is (slice_set clients c.args.client new) c.args.client new found (get_set clients c.args.client new (search rules)) is)
    (free_whole c.index_mut.result.now new _ c.take_beat.new.request (Ok c.args.progress) (ap (λ (progress : Progress). Ok progress) whole) c.take_beat.ensures.client (c.take_beat.ensures.free whole))

pub returns-clause-first : goal.returns-clause-first
returns-clause-first c found is none more = c.take_beat.ensures.first (ap (λ (client : ClientBoard). client.front) (same c found is) ∙ none) more
