use Rattle.std.proofs.Common.{rules}
use Rattle.threads_script.proofs.script.AskedScript.end.Goals as goal

pub returns : goal.returns
returns g c = search rules
