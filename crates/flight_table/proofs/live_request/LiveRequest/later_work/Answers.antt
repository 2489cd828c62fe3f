use Rattle.std.proofs.Common.{◌∙◌, ap, sym}
use Rattle.flight_table.specs.LiveRequests.{LiveRequest}
use Rattle.flight_table.proofs.PhaseLaws.{later_is}
use Rattle.flight_table.proofs.live_request.LiveRequest.later_work.Goals as goal

pub returns-clause-work : goal.returns-clause-work
returns-clause-work c =
    rw c.from.ensures
    (later_is c.args.self.now c.writes.result c.piece_beats.result (ap (λ (r : LiveRequest). r.writing) (sym c.self.view_is) ∙ c.if-self.false) c.writes.ensures.count c.piece_beats.ensures.count)
