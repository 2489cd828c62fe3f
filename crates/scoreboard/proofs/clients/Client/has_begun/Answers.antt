-- A message has begun where it has a source.
use Rattle.std.proofs.Common.{◌∙◌, ap, ℕ, Option}
use Rattle.std.specs.Prelude.{is_some}
use Rattle.scoreboard.specs.InsideBoards.{ClientState}
use Rattle.scoreboard.proofs.held.FreeFronts.{some_source}
use Rattle.scoreboard.proofs.clients.Client.has_begun.Goals as goal

pub returns : goal.returns
returns c =
    c.is_some.ensures
    ∙ ap (λ (source : Option ℕ). is_some source) c.self.invariant.3
    ∙ some_source c.self.inside.port.front
    ∙ ap (λ (client : ClientState). is_some client.front) c.self.view_is
