-- All that are hit stay on good pages.
use Rattle.std.proofs.Common.{◌≡◌, ℕ, Bool, List, ap, ap₂, map, rules, subst, sym, ◌∙◌}
use Rattle.std.specs.Prelude.{Some}
use Rattle.std.specs.Vec.{with_items}
use Rattle.std.proofs.lemmas.List.{places, with_items_is}
use Rattle.serial_memory.specs.SerialMemory.{Memory, doubts_of, rooms_of}
use Rattle.scoreboard.specs.Boards.{Board, ClientBoard, footprints_of, hit_client, hit_on}
use Rattle.scoreboard.specs.FailedBursts.{Reach, after_reached}
use Rattle.scoreboard.specs.InsideBoards.{BoardState, ClientState, ClientsHaveRoom, HaveRoomToWrite, board_of, client_of, most_words}
use Rattle.scoreboard.specs.contracts.board.Scoreboard.{the_view}
use Rattle.scoreboard.proofs.held.BoardSteps.{hit_kept}
use Rattle.scoreboard.proofs.board.Scoreboard.hit.Goals as goal

held : (c : goal.After-self-1) → (with_items c.self.inside.clients c.hit.new.clients).items ≡ c.hit.new.clients
held c = with_items_is c.self.inside.clients c.hit.new.clients (search (rules, places))

struck : (c : goal.After-self-1) → map client_of c.hit.new.clients ≡ map (hit_client c.args.span) (map client_of c.self.inside.clients.items)
struck c = c.hit.ensures.clients ∙ ap (λ (cs : List ClientState). map (hit_client c.args.span) (map client_of cs)) c.deref_mut.ensures.value

pub invariant_of-self : goal.invariant_of-self
invariant_of-self c =
    let room = most_words in
    let kept = hit_kept room (rooms_of c.self.inside.serial) c.self.inside.clients.items c.hit.new.clients c.args.span (struck c)
    (λ have. c.hit.ensures.room room (subst (ClientsHaveRoom room) (sym c.deref_mut.ensures.value) have)) (c.self.invariant.0, c.self.invariant.1, c.self.invariant.3) in
    (rw (held c) kept.0, rw (held c) kept.1, c.self.invariant.2, rw (held c) (subst (λ rooms. HaveRoomToWrite rooms (footprints_of (map client_of c.hit.new.clients))) (sym c.mark_reached.ensures.rest.rooms) kept.2))

pub returns-clause-state : goal.returns-clause-state
returns-clause-state c =
    let board = board_of (the_view c.self.inside) in
    let clients = (with_items c.self.inside.clients c.hit.new.clients).items in
    ap {B = Board} (λ (memory : Memory). record board { clients = map client_of clients; memory = memory; indeterminate = doubts_of c.mark_reached.new.marks }) c.mark_reached.ensures.rest.memory
    ∙ ap₂ {C = Board} (λ (clients : List ClientBoard) (indeterminate : ℕ → Bool). record board { clients = clients; indeterminate = indeterminate })
    (ap (map client_of) (held c) ∙ struck c)
    (c.mark_reached.ensures.bytes
    ∙ ap₂ (λ (reach : Reach) (cs : List ClientState). after_reached (doubts_of c.self.inside.serial) reach (footprints_of (map client_of cs))) c.of_burst.ensures c.deref.ensures.value)
    ∙ ap (λ (b : BoardState). hit_on (Some c.args.span) (board_of b)) c.self.view_is
