use Rattle.std.proofs.Common.{◌∙◌, sym}
use Rattle.flight_table.specs.LiveRequests.{pieces_planned}
use Rattle.flight_table.proofs.PhaseLaws.{alike-none}
use Rattle.flight_table.proofs.live_request.LiveRequest.piece_beats.Goals as goal

pub returns-then-pieces-eq0-clause-count : goal.returns-then-pieces-eq0-clause-count
returns-then-pieces-eq0-clause-count c = alike-none 0 (pieces_planned c.args.self.now.plan) (sym c.pieces.ensures.count ∙ c.if-pieces-eq0.true)
