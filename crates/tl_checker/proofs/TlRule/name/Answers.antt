use Rattle.std.proofs.Common.{rules}
use Rattle.tl_checker.proofs.TlRule.name.Goals as goal

pub returns-in-DSize : goal.returns-in-DSize
returns-in-DSize c = search rules
