-- The client that is there judges.
use Rattle.std.proofs.Common.{◌≡◌, Some, ap, rules, subst, sym, ◌∙◌, arith}
use Rattle.std.proofs.lemmas.Grind.{common_steps, elements}
use Rattle.std.specs.Prelude.{slice_get}
use Rattle.serial_memory.specs.SerialMemory.{rooms_of}
use Rattle.scoreboard.specs.Boards.{ClientBoard, after_d, client_cut, client_footprints, d_wrong}
use Rattle.scoreboard.specs.InsideBoards.{HaveRoomToWrite, BoardState, board_of, client_of, most_words}
use Rattle.scoreboard.specs.contracts.board.Scoreboard.{the_view}
use Rattle.scoreboard.proofs.held.BoardSteps.{client_kept, client_there, replied, there_at}
use Rattle.scoreboard.proofs.held.ClientFootprints.{room_after, room_cut}
use Rattle.scoreboard.proofs.board.Scoreboard.judge_reply.Goals as goal

there : (c : goal.After-self-2-1) → slice_get c.self.inside.clients.items c.from.result ≡ Some c.in-Some.found.now
there c = there_at c.self.inside.clients.items c.from.result c.in-Some.found.now (search rules) c.in-Some.ensures.item.1

pub invariant_of-self-2 : goal.invariant_of-self-2
invariant_of-self-2 c =
    let found = c.in-Some.found.now in
    let rooms = rooms_of c.self.inside.serial in
    let kept = client_kept most_words rooms c.self.inside.clients.items c.from.result found c.judge_reply.new.self (there c) c.judge_reply.ensures.room
    (λ good. subst (λ (client : ClientBoard). HaveRoomToWrite rooms (client_footprints client)) (sym c.judge_reply.ensures.state) (room_after rooms (client_cut c.args.beat.now.source (client_of found)) c.args.beat.now.source (room_cut rooms (client_of found) c.args.beat.now.source good)))
    (c.self.invariant.0, c.self.invariant.1, c.self.invariant.3) in
    (kept.0, kept.1, c.self.invariant.2, kept.2)

pub returns-clause-answer : goal.returns-clause-answer
returns-clause-answer c =
    c.judge_reply.ensures.wrong
    ∙ ap (λ o. d_wrong c.self.inside.policy o c.args.beat.now) (sym (client_there c.self.inside.clients.items c.from.result c.in-Some.found.now (there c)))
    ∙ rw c.from.ensures (ap (λ (state : BoardState). d_wrong state.policy (slice_get (board_of state).clients c.args.client) c.args.beat.now) c.self.view_is)

pub returns-clause-state : goal.returns-clause-state
returns-clause-state c =
    replied (the_view c.self.inside) c.from.result c.in-Some.found.now c.judge_reply.new.self c.args.beat.now (there c) c.judge_reply.ensures.state
    ∙ rw c.from.ensures (ap (λ (board : BoardState). after_d (board_of board) c.args.client (slice_get (board_of board).clients c.args.client) c.args.beat.now) c.self.view_is)

pub returns-in_default-clause-answer : goal.returns-in_default-clause-answer
returns-in_default-clause-answer c = grind (arith, elements) steps 2000000

pub returns-in_default-clause-state : goal.returns-in_default-clause-state
returns-in_default-clause-state c = grind (arith, common_steps)
