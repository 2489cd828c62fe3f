-- The pages of the ranges so far break no rule, and are counted.
use Rattle.sparse_memory.proofs.CountedPages.{AreCounted}
use Rattle.sparse_memory.proofs.ranges.page_fault.Given as goal

abbrev pub invariant-loop-place : goal.invariant-loop-place
invariant-loop-place l = AreCounted l.ranges l.place l.counted
