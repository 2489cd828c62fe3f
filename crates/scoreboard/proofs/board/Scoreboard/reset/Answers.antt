-- Clients that have begun nothing write nothing.
use Rattle.std.proofs.Common.{◌≡◌, ℕ, Bool, List, ap, ap₂, map, rules, subst, sym, ◌∙◌}
use Rattle.std.specs.Vec.{with_items}
use Rattle.std.proofs.lemmas.List.{places, with_items_is}
use Rattle.serial_memory.specs.SerialMemory.{Memory, doubts_of, rooms_of}
use Rattle.scoreboard.specs.AxiPorts.{PortBoard}
use Rattle.scoreboard.specs.Boards.{Board, ClientBoard, footprints_of}
use Rattle.scoreboard.specs.FailedBursts.{Reach, after_reached}
use Rattle.scoreboard.specs.InsideBoards.{BoardState, ClientState, ClientsHaveRoom, HaveRoomToWrite, board_of, client_of, most_words}
use Rattle.scoreboard.specs.Resets.{reset_client, reset_on}
use Rattle.scoreboard.specs.contracts.board.Scoreboard.{the_view}
use Rattle.scoreboard.proofs.held.BoardSteps.{reset_kept}
use Rattle.scoreboard.proofs.real_time.ResetsRightly.{resets_rightly}
use Rattle.scoreboard.proofs.board.Scoreboard.reset.Goals as goal

held : (c : goal.After-self-2-1) → (with_items c.self.inside.clients c.reset.new.clients).items ≡ c.reset.new.clients
held c = with_items_is c.self.inside.clients c.reset.new.clients (search (rules, places))

begun_anew : (c : goal.After-self-2-1) → map client_of c.reset.new.clients ≡ map reset_client (map client_of c.self.inside.clients.items)
begun_anew c = c.reset.ensures.clients ∙ ap (λ (cs : List ClientState). map reset_client (map client_of cs)) c.deref_mut.ensures.value

pub invariant_of-self : goal.invariant_of-self
invariant_of-self c =
    let room = most_words in
    let kept = reset_kept room (rooms_of c.self.inside.serial) c.self.inside.clients.items c.reset.new.clients (begun_anew c)
    (λ have. c.reset.ensures.room room (subst (ClientsHaveRoom room) (sym c.deref_mut.ensures.value) have)) (c.self.invariant.0, c.self.invariant.1, c.self.invariant.3) in
    (rw (held c) kept.0, rw (held c) kept.1, c.self.invariant.2, rw (held c) (subst (λ rooms. HaveRoomToWrite rooms (footprints_of (map client_of c.reset.new.clients))) (sym c.mark_reached.ensures.rest.rooms) kept.2))

pub returns-clause-state : goal.returns-clause-state
returns-clause-state c =
    let clients = (with_items c.self.inside.clients c.reset.new.clients).items in
    ap {B = Board} (λ (memory : Memory). record (board_of (the_view c.self.inside)) { clients = map client_of clients; memory = memory; indeterminate = doubts_of c.mark_reached.new.marks; axi = c.clear.new.self }) c.mark_reached.ensures.rest.memory
    ∙ ap₂ {C = Board} (λ (clients : List ClientBoard) (indeterminate : ℕ → Bool). record (board_of (the_view c.self.inside)) { clients = clients; indeterminate = indeterminate; axi = c.clear.new.self })
    (ap (map client_of) (held c) ∙ begun_anew c)
    (c.mark_reached.ensures.bytes
    ∙ ap₂ (λ (reach : Reach) (cs : List ClientState). after_reached (doubts_of c.self.inside.serial) reach (footprints_of (map client_of cs))) c.of_reset.ensures c.deref.ensures.value)
    ∙ ap {B = Board} (λ (axi : PortBoard). record (reset_on (board_of (the_view c.self.inside))) { axi = axi }) c.clear.ensures
    ∙ ap (λ (b : BoardState). reset_on (board_of b)) c.self.view_is

pub returns-clause-rightly : goal.returns-clause-rightly
returns-clause-rightly c = resets_rightly (board_of c.args.self.now)
