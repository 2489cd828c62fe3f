-- The transfers so far stand in the box.
use Rattle.tl_messages.specs.Requests.{request_of}
use Rattle.bridge_core.proofs.BurstWrites.{begun}
use Rattle.bridge_core.proofs.bursts.set_put.Given as goal
use Rattle.std.proofs.Common.{◌≡◌}

abbrev pub invariant-loop-k : goal.invariant-loop-k
invariant-loop-k l = l.burst ≡ begun l.plan.bus_bytes l.id (request_of l.request).bytes l.plan.address l.piece l.k
