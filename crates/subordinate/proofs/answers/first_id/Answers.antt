-- The lowest bit is the smallest ID.
use Rattle.std.proofs.Common.{arith}
use Rattle.subordinate.proofs.FirstReady.{first_has}
use Rattle.subordinate.proofs.answers.first_id.Goals as goal

pub returns : goal.returns
returns c = first_has c.args.ids (omega (arith, c.if-ids-eq0.false)) (omega (arith, c.ranges.ids))
