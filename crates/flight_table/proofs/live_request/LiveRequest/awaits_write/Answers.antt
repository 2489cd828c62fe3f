use Rattle.std.proofs.Common.{arith}
use Rattle.std.proofs.lemmas.Grind.{common_steps}
use Rattle.flight_table.proofs.live_request.LiveRequest.awaits_write.Goals as goal

pub returns-then-not-self-2 : goal.returns-then-not-self-2
returns-then-not-self-2 c = grind (arith, common_steps)

pub returns-else-not-self-2 : goal.returns-else-not-self-2
returns-else-not-self-2 c = grind (arith, common_steps)
