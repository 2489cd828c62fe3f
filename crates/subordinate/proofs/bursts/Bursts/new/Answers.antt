use Rattle.std.proofs.Common.{arith}
use Rattle.subordinate.proofs.BurstCounts.{counted_none}
use Rattle.subordinate.proofs.BurstIndex.{indexed_none}
use Rattle.subordinate.proofs.bursts.Bursts.new.Goals as goal

pub invariant_of-result : goal.invariant_of-result
invariant_of-result c = (indexed_none c.in_ok-items.items.items c.in_ok-queues.queues c.new-2.result c.in_ok-items.ensures.items c.in_ok-queues.ensures c.new-2.ensures, counted_none c.in_ok-items.items.items c.in_ok-items.ensures.items, omega (arith, c.in_ok-items.ensures.exact))
