-- The others have given way.
use Rattle.std.proofs.Common.{ap, map, subst, ◌∙◌}
use Rattle.scoreboard.specs.Flights.{InFlight}
use Rattle.scoreboard.specs.InsideBoards.{IsFreeOf, client_of, footprint_of}
use Rattle.scoreboard.proofs.held.BoardSteps.{free_beside, is_there, joined_taken, was_there}
use Rattle.scoreboard.proofs.board.Scoreboard.accept_at_once.Goals as goal

pub put_in-requires-clause-free : goal.put_in-requires-clause-free
put_in-requires-clause-free c made there =
    let footprint = footprint_of c.join.new.self.joining.footprint in
    let source = c.args.self.now.request.source in
    rw (ap (λ (f : InFlight). f.source) c.join.ensures.flight)
    (was_there (map client_of c.join.new.self.clients) (map client_of c.args.self.now.clients) footprint c.args.client c.join.ensures.clients (IsFreeOf source made) made there
    (λ found was is. subst (IsFreeOf source) is (free_beside source footprint found (c.requires.free found was))))

pub returns-clause-state : goal.returns-clause-state
returns-clause-state c found is =
    let old = c.args.self.now in
    let now = c.join.new.self in
    c.put_in.ensures.state _ (is_there (map client_of now.clients) (map client_of old.clients) (footprint_of now.joining.footprint) c.args.client c.join.ensures.clients found is)
    ∙ joined_taken old now c.args.client found (record { rest = c.join.ensures.rest; memory = c.join.ensures.memory; flight = c.join.ensures.flight }) c.join.ensures.footprint c.join.ensures.clients c.join.ensures.bytes
