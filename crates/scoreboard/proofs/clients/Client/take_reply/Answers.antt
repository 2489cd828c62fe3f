-- No more is due than before, and where no reply in flight has the beat all that are due stay so.
use Rattle.std.proofs.Common.{◌≡◌, ◌∙◌, Option, Bool, None, ap, subst, sym}
use Rattle.scoreboard.specs.Boards.{next_to, told_to, wrong_reply}
use Rattle.scoreboard.specs.Flights.{begun_after, next_reply}
use Rattle.scoreboard.specs.InsideBoards.{ClientState, FlightsState, client_of, flights_of}
use Rattle.scoreboard.specs.contracts.clients.Client.{the_view}
use Rattle.scoreboard.proofs.held.EarlyReplies.{early_wrong, nothing}
use Rattle.scoreboard.proofs.held.FreeFronts.{front_begun, front_counted}
use Rattle.scoreboard.proofs.clients.Client.take_reply.Goals as goal

pub invariant_of-self : goal.invariant_of-self
invariant_of-self c = (
  c.self.invariant.0,
  c.self.invariant.1,
  rw c.begin.ensures.flights (front_begun c.self.inside.port.front (flights_of c.self.inside.flights) c.args.beat.now.source c.self.invariant.2),
  c.self.invariant.3,
  c.self.invariant.4 ∙ sym c.begin.ensures.room,
  c.self.invariant.5,
)

pub judge_early-requires : goal.judge_early-requires
judge_early-requires c =
    subst (λ (flights : FlightsState). next_reply (flights_of flights) c.args.beat.now.source ≡ None) (sym (c.begin.ensures.none c.if-not-begin.true))
    (nothing (next_reply (flights_of c.self.inside.flights) c.args.beat.now.source) (sym c.begin.ensures.begun ∙ c.if-not-begin.true))

pub returns-then-not-begin-clause-wrong : goal.returns-then-not-begin-clause-wrong
returns-then-not-begin-clause-wrong c =
    let source = c.args.beat.now.source in
    c.judge_early.ensures.wrong
    ∙ early_wrong c.args.policy c.told-told.result (client_of (the_view c.self.inside)) (flights_of c.begin.new.self) source c.unwrap_or-self-inside.result c.args.beat.now
    (ap flights_of (c.begin.ensures.none c.if-not-begin.true))
    ∙ ap (λ (told : Option Bool). wrong_reply c.args.policy told (next_to c.args.policy (client_of (the_view c.self.inside)) source) c.args.beat.now) c.told-told.ensures
    ∙ ap (λ (client : ClientState). wrong_reply c.args.policy (told_to (client_of c.args.self.now)) (next_to c.args.policy (client_of client) source) c.args.beat.now) c.self.view_is

pub invariant_of-self-2 : goal.invariant_of-self-2
invariant_of-self-2 c =
    let source = c.args.beat.now.source in (
      c.self.invariant.0,
      c.self.invariant.1,
      rw c.count.ensures.flights (front_counted c.self.inside.port.front (flights_of c.begin.new.self) (begun_after (flights_of c.begin.new.self).begun source)
          (rw c.begin.ensures.flights (front_begun c.self.inside.port.front (flights_of c.self.inside.flights) source c.self.invariant.2))),
      c.self.invariant.3,
      c.self.invariant.4 ∙ sym c.begin.ensures.room ∙ sym c.count.ensures.room,
      c.self.invariant.5,
    )
