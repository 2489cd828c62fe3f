use Rattle.std.proofs.Common.{rules}
use Rattle.axi_checker.proofs.outstanding.moved.Goals as goal

pub returns-then-place-complete : goal.returns-then-place-complete
returns-then-place-complete c = search rules
