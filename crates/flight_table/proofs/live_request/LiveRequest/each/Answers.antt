use Rattle.std.proofs.Common.{◌∙◌, ap, refl, sym}
use Rattle.flight_table.specs.LiveRequests.{LiveRequest}
use Rattle.flight_table.proofs.PhaseLaws.{worth_is}
use Rattle.flight_table.proofs.live_request.LiveRequest.each.Goals as goal

pub returns-then-self-clause-each : goal.returns-then-self-clause-each
returns-then-self-clause-each c =
    worth_is c.args.self.now c.piece_beats-beats.result 1 c.piece_beats-beats.ensures.count (rw (ap (λ (r : LiveRequest). r.writing) (sym c.self.view_is) ∙ c.if-self.true) refl)

pub returns-else-self-clause-each : goal.returns-else-self-clause-each
returns-else-self-clause-each c =
    let beats = c.piece_beats-beats.result in
    worth_is c.args.self.now beats beats c.piece_beats-beats.ensures.count (rw (ap (λ (r : LiveRequest). r.writing) (sym c.self.view_is) ∙ c.if-self.false) refl)
