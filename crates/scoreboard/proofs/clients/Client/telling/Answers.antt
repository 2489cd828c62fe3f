-- Where no reply in flight has the beat it may come early.
use Rattle.std.proofs.Common.{◌∙◌, ap, sym}
use Rattle.scoreboard.specs.Boards.{next_to}
use Rattle.scoreboard.specs.InsideBoards.{ClientState, client_of}
use Rattle.scoreboard.specs.Telling.{flight_telling}
use Rattle.scoreboard.specs.contracts.clients.Client.{the_view}
use Rattle.scoreboard.proofs.held.EarlyReplies.{early_telling}
use Rattle.scoreboard.proofs.clients.Client.telling.Goals as goal

pub returns-in-RealTime-Some : goal.returns-in-RealTime-Some
returns-in-RealTime-Some c =
    c.of_due.ensures
    ∙ early_telling c.args.policy (client_of (the_view c.self.inside)) c.in-RealTime-Some.due c.args.source c.in-RealTime-Some.is-0 (sym c.telling.ensures ∙ c.in_default.is)
    c.in-RealTime-Some.is-1 c.if-due-source.true
    ∙ ap (λ (client : ClientState). flight_telling c.args.policy (next_to c.args.policy (client_of client) c.args.source)) c.self.view_is
