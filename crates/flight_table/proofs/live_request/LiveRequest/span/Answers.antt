use Rattle.std.proofs.Common.{rules}
use Rattle.flight_table.proofs.live_request.LiveRequest.span.Goals as goal

pub returns-in-Get : goal.returns-in-Get
returns-in-Get c = search rules
