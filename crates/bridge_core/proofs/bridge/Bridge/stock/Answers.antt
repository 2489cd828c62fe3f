-- There are at most 64 boxes.
use Rattle.std.proofs.Common.{arith, rules}
use Rattle.bridge_core.proofs.ReadCounts.{few_boxes}
use Rattle.bridge_core.proofs.bridge.Bridge.stock.Goals as goal

pub overflow_cast-result : goal.overflow_cast-result
overflow_cast-result c = omega (arith, c.len.ensures, c.self.invariant.3, few_boxes c.self.inside.requests.config c.self.invariant.0.requests.config)

pub returns : goal.returns
returns c = search rules
