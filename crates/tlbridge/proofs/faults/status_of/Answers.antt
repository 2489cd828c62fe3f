use Rattle.std.proofs.Common.{rules}
use Rattle.tlbridge.proofs.faults.status_of.Goals as goal

pub returns-in-Err-Thread : goal.returns-in-Err-Thread
returns-in-Err-Thread c = search rules
