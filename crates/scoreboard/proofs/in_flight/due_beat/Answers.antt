use Rattle.std.proofs.Common.{rules}
use Rattle.scoreboard.proofs.in_flight.due_beat.Goals as goal

pub returns-then-not-failed : goal.returns-then-not-failed
returns-then-not-failed c = search rules
