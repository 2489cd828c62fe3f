-- The messages of the clients so far, of which each has one at most.
use Rattle.std.proofs.Common.{◌≡◌, ◌≤◌, take}
use Rattle.std.specs.List.{sum_by}
use Rattle.std.specs.Prelude.{is_some}
use Rattle.scoreboard.specs.Telling.{one_if}
use Rattle.scoreboard.proofs.all_clients.begun_of.Given as goal

abbrev pub invariant-loop-client : goal.invariant-loop-client
invariant-loop-client l = (l.count ≡ sum_by (λ client. one_if (is_some client.front)) (take l.client-index l.clients)) × (l.count ≤ l.client-index)
