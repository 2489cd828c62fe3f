-- As much is due as before.
use Rattle.std.proofs.Common.{◌∙◌, sym}
use Rattle.scoreboard.specs.InsideBoards.{flights_of, footprint_of}
use Rattle.scoreboard.specs.Races.{beside}
use Rattle.scoreboard.proofs.held.FreeFronts.{front_changed}
use Rattle.scoreboard.proofs.clients.Client.give_way.Goals as goal

pub invariant_of-self : goal.invariant_of-self
invariant_of-self c = (
  c.self.invariant.0,
  c.self.invariant.1,
  rw c.give_way.ensures.flights (front_changed c.self.inside.port.front (flights_of c.self.inside.flights) (λ one. beside one (footprint_of c.args.other.now)) c.self.invariant.2),
  c.self.invariant.3,
  c.give_way-2.ensures.room ∙ c.self.invariant.4 ∙ sym c.give_way.ensures.room,
  c.self.invariant.5,
)
