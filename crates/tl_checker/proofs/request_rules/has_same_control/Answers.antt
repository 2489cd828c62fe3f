use Rattle.std.proofs.Common.{rules}
use Rattle.tl_checker.proofs.request_rules.has_same_control.Goals as goal

pub returns-then-beat-source : goal.returns-then-beat-source
returns-then-beat-source c = search rules
