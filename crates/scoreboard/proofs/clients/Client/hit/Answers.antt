-- As much is due as before.
use Rattle.std.proofs.Common.{◌∙◌, sym}
use Rattle.scoreboard.specs.FailedBursts.{hit}
use Rattle.scoreboard.specs.InsideBoards.{flights_of}
use Rattle.scoreboard.proofs.held.FreeFronts.{front_changed}
use Rattle.scoreboard.proofs.clients.Client.hit.Goals as goal

pub invariant_of-self : goal.invariant_of-self
invariant_of-self c = (
  c.self.invariant.0,
  c.self.invariant.1,
  rw c.hit.ensures.flights (front_changed c.self.inside.port.front (flights_of c.self.inside.flights) (hit c.args.span) c.self.invariant.2),
  c.self.invariant.3,
  c.hit-2.ensures.room ∙ c.self.invariant.4 ∙ sym c.hit.ensures.room,
  c.self.invariant.5,
)
