use Rattle.std.proofs.Common.{rules}
use Rattle.tl_checker.proofs.TlRule.number.Goals as goal

pub returns : goal.returns
returns c = search rules
