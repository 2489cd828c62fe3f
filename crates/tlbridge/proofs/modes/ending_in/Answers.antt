use Rattle.std.proofs.Common.{rules}
use Rattle.tlbridge.proofs.modes.ending_in.Goals as goal

pub returns-in-Check-clause-check : goal.returns-in-Check-clause-check
returns-in-Check-clause-check g c = search rules
