-- The work counts each outstanding beat twice.
use Rattle.std.proofs.Common.{◌≡◌, ◌∙◌, ◌*◌, ◌≤◌, ap, arith}
use Rattle.flight_table.specs.Tables.{FlightTable}
use Rattle.flight_table.specs.Work.{work}
use Rattle.bridge_core.specs.HeldRequests.{flight_table_of}
use Rattle.bridge_core.proofs.BridgeSteps.{state_in}
use Rattle.bridge_core.proofs.WorkLeft.{work_covers_reads}
use Rattle.bridge_core.proofs.bridge.Bridge.work_left.Goals as goal

covered : (c : goal.After-answered_reads) → 2 * c.answered_reads.result ≤ c.work.result
covered c =
    let i = c.self.inside in
    let all : c.work.result ≡ work (flight_table_of i.requests) = c.work.ensures ∙ ap (λ (t : FlightTable). work t) c.flight.ensures.table in
    omega (arith, all, c.answered_reads.ensures, work_covers_reads (state_in i.ports.items i.requests i.monitor.open_bursts) c.self.invariant.0)

pub overflow_mul-result : goal.overflow_mul-result
overflow_mul-result c = omega (arith, covered c, c.work.type_inv)

pub overflow_sub-result : goal.overflow_sub-result
overflow_sub-result c = covered c
