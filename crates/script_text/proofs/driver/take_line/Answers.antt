use Rattle.std.proofs.Common.{rules}
use Rattle.script_text.proofs.driver.take_line.Goals as goal

pub returns-then-not-may_stand : goal.returns-then-not-may_stand
returns-then-not-may_stand c = search rules
