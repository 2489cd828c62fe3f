use Rattle.std.proofs.Common.{◌∙◌, ap, sym}
use Rattle.flight_table.specs.LiveRequests.{LiveRequest}
use Rattle.flight_table.proofs.PhaseLaws.{alike}
use Rattle.flight_table.proofs.live_request.LiveRequest.piece.Goals as goal

pub returns-clause-alike : goal.returns-clause-alike
returns-clause-alike c =
    rw (sym (ap (λ (r : LiveRequest). r.plan) c.self.view_is) ∙ c.in-Some.is) (alike c.in-Some.plan c.args.place c.burst.result c.burst.ensures.range c.burst.ensures.piece)
