-- The key that the table answers is that of the first request.
use Rattle.std.proofs.Common.{sym, ◌∙◌, arith}
use Rattle.flight_table.specs.Order.{holds_id}
use Rattle.bridge_core.proofs.TableSteps.{first_at}
use Rattle.bridge_core.proofs.request_table.serving.Goals as goal

pub unwrap-requires : goal.unwrap-requires
unwrap-requires c = rw c.of_id.ensures.key (grind (arith, c.requires))

pub returns : goal.returns
returns c = first_at (holds_id c.args.id) c.args.flight.now c.unwrap.result c.of_id.ensures.laws (sym c.of_id.ensures.key ∙ c.unwrap.ensures)
