-- It may be told where its bytes are those of the payload, or aren't known.
use Rattle.std.proofs.Common.{◌∙◌, ap, arith}
use Rattle.byte_values.specs.Parts.{showing_lanes}
use Rattle.byte_values.specs.contracts.holding.WordHolding.{the_view}
use Rattle.byte_values.proofs.SeenLaws.{showing-bits}
use Rattle.byte_values.proofs.holding.WordHolding.showing_lanes.Goals as goal

pub returns : goal.returns
returns c =
    showing-bits (the_view c.self.inside) c.args.payload c.same_bytes.result (omega arith) (omega arith) c.same_bytes.ensures
    ∙ ap (λ w. showing_lanes w c.args.payload) c.self.view_is
