-- The transfers so far stand in the box.
use Rattle.std.proofs.Common.{◌≡◌, ◌^◌, Some, map}
use Rattle.data_unit.specs.Words.{bytes_of}
use Rattle.bridge_core.proofs.BurstWrites.{begun}
use Rattle.bridge_core.proofs.bursts.set_number.Given as goal

abbrev pub invariant-loop-k : goal.invariant-loop-k
invariant-loop-k l = l.burst ≡ begun l.plan.bus_bytes l.id (map Some (bytes_of (2 ^ l.plan.size) l.number)) l.plan.address l.piece l.k
