-- Both sums are kept.
use Rattle.std.proofs.Common.{List, length, arith, ap}
use Rattle.std.specs.Prelude.{sum_by}
use Rattle.subordinate.specs.FreeMemory.{Pending, work_in}
use Rattle.subordinate.proofs.BurstCounts.{work_counted}
use Rattle.subordinate.proofs.bursts.Bursts.work_left.Goals as goal

pub returns-clause-work : goal.returns-clause-work
returns-clause-work c =
    let inside = c.self.inside in
    omega (
      arith,
      c.from.ensures,
      c.from-2.ensures,
      (work_counted inside.items.items inside.waiting inside.owed inside.first c.self.invariant.1).0,
      ap (λ (bursts : List Pending). sum_by work_in bursts) c.self.view_is,
    )

pub returns-clause-most : goal.returns-clause-most
returns-clause-most c =
    let inside = c.self.inside in
    omega (
      arith,
      c.from.ensures,
      c.from-2.ensures,
      (work_counted inside.items.items inside.waiting inside.owed inside.first c.self.invariant.1).1,
      ap (λ (bursts : List Pending). length bursts) c.self.view_is,
    )
