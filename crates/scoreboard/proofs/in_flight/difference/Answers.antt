use Rattle.std.proofs.Common.{rules}
use Rattle.scoreboard.proofs.in_flight.difference.Goals as goal

pub returns-then-beat-due : goal.returns-then-beat-due
returns-then-beat-due c = search rules
