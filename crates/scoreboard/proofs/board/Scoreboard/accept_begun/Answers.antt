-- Its bytes are given, and the clients are as before.
use Rattle.std.proofs.Common.{ap, sym, ◌∙◌}
use Rattle.std.specs.Prelude.{slice_get}
use Rattle.scoreboard.specs.Flights.{InFlight}
use Rattle.scoreboard.specs.InsideBoards.{BoardState, board_of}
use Rattle.scoreboard.proofs.held.BoardSteps.{given_taken, with_changes}
use Rattle.scoreboard.proofs.board.Scoreboard.accept_begun.Goals as goal

pub put_in-requires-clause-free : goal.put_in-requires-clause-free
put_in-requires-clause-free c found there =
    rw (ap (λ (f : InFlight). f.source) c.give.ensures.flight) (c.requires.free found (ap (λ (b : BoardState). slice_get (board_of b).clients c.args.client) (sym c.give.ensures.rest) ∙ there))

pub returns-clause-state : goal.returns-clause-state
returns-clause-state c found is =
    let old = c.args.self.now in
    let now = c.give.new.self in
    c.put_in.ensures.state found (ap (λ (b : BoardState). slice_get (board_of b).clients c.args.client) c.give.ensures.rest ∙ is)
    ∙ given_taken old now c.args.client found c.has_replied-replied.result (c.has_replied-replied.ensures found is)
    (record { rest = ap (with_changes now) c.give.ensures.rest; memory = c.give.ensures.memory; flight = c.give.ensures.flight })
    c.give.ensures.rest (c.give.ensures.footprint found is) c.give.ensures.bytes
