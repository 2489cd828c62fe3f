-- A message that has begun is of a free source, and its first beat is right.
use Rattle.std.proofs.Common.{◌≡◌, Ok, sym, ◌∙◌, ap}
use Rattle.tl_checker.specs.Ports.{judged}
use Rattle.tl_checker.specs.declared.Progress.{Progress}
use Rattle.scoreboard.specs.Boards.{answer_to}
use Rattle.scoreboard.specs.Flights.{is_busy}
use Rattle.scoreboard.specs.InsideBoards.{ClientState, client_of, flights_of}
use Rattle.scoreboard.proofs.held.FreeFronts.{asked_by, first_taken, joined_free, more_right, whole_joined}
use Rattle.scoreboard.proofs.clients.Client.take_beat.Goals as goal

pub invariant_of-self : goal.invariant_of-self
invariant_of-self c =
    let told : judged c.self.inside.port.limits c.self.inside.port.front c.args.beat.now (is_busy c.args.policy (flights_of c.self.inside.flights) c.args.beat.now.source) ≡ Ok c.args.progress =
    ap (λ (client : ClientState). answer_to c.args.policy (client_of client) c.args.beat.now) c.self.view_is ∙ c.requires in
    let right = more_right c.args.policy c.self.inside.port c.take_judged.new.self c.args.beat.now (flights_of c.self.inside.flights) (Ok c.args.progress) c.self.inside.corrupt c.self.inside.begun c.self.invariant.0
    c.self.invariant.1 c.self.invariant.2 c.self.invariant.3 c.self.invariant.5 (sym told) c.take_judged.ensures (ap (λ (progress : Progress). Ok progress) c.in-More.is) in
    (right.0, right.1, right.2, c.or-self-inside.ensures ∙ right.3, c.self.invariant.4, right.4)

pub returns-in-More-clause-first : goal.returns-in-More-clause-first
returns-in-More-clause-first c none more =
    let told : judged c.self.inside.port.limits c.self.inside.port.front c.args.beat.now (is_busy c.args.policy (flights_of c.self.inside.flights) c.args.beat.now.source) ≡ Ok c.args.progress =
    ap (λ (client : ClientState). answer_to c.args.policy (client_of client) c.args.beat.now) c.self.view_is ∙ c.requires in
    first_taken c.self.inside.port.limits c.self.inside.port.front c.args.beat.now _ c.self.invariant.1
    (ap (λ (client : ClientState). client.front) c.self.view_is ∙ none) (told ∙ ap (λ (progress : Progress). Ok progress) more)

pub returns-in-Whole-clause-free : goal.returns-in-Whole-clause-free
returns-in-Whole-clause-free c whole =
    let told : judged c.self.inside.port.limits c.self.inside.port.front c.args.beat.now (is_busy c.args.policy (flights_of c.self.inside.flights) c.args.beat.now.source) ≡ Ok c.args.progress =
    ap (λ (client : ClientState). answer_to c.args.policy (client_of client) c.args.beat.now) c.self.view_is ∙ c.requires in
    let stands = whole_joined c.self.inside.port c.take_judged.new.self c.args.beat.now (Ok c.args.progress) c.take_whole.new.room c.take_judged.ensures c.take_whole.ensures.request (ap (λ (progress : Progress). Ok progress) whole) in
    rw (stands, ← c.self.view_is) (joined_free c.args.policy c.self.inside.port.limits c.self.inside.port.front c.args.beat.now (flights_of c.self.inside.flights) c.args.progress c.self.invariant.2 told)

pub returns-in-Whole-clause-asked : goal.returns-in-Whole-clause-asked
returns-in-Whole-clause-asked c whole =
    let told : judged c.self.inside.port.limits c.self.inside.port.front c.args.beat.now (is_busy c.args.policy (flights_of c.self.inside.flights) c.args.beat.now.source) ≡ Ok c.args.progress =
    ap (λ (client : ClientState). answer_to c.args.policy (client_of client) c.args.beat.now) c.self.view_is ∙ c.requires in
    let stands = whole_joined c.self.inside.port c.take_judged.new.self c.args.beat.now (Ok c.args.progress) c.take_whole.new.room c.take_judged.ensures c.take_whole.ensures.request (ap (λ (progress : Progress). Ok progress) whole) in
    rw stands (asked_by c.self.inside.port.limits c.self.inside.port.front c.args.beat.now _ c.args.progress told)
