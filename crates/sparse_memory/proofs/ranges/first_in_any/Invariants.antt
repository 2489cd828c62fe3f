-- The first page that is in one of the ranges so far.
use Rattle.std.proofs.Common.{◌≡◌, ◌+◌, take}
use Rattle.std.specs.Prelude.{find}
use Rattle.std.specs.List.{list_any, range_with_len}
use Rattle.sparse_memory.specs.Ranges.{has_page}
use Rattle.sparse_memory.proofs.ranges.first_in_any.Given as goal

abbrev pub invariant-loop-other : goal.invariant-loop-other
invariant-loop-other l = l.first ≡ find (λ k. list_any (has_page (l.range.first + k)) (take l.other-index l.others)) (range_with_len 0 l.range.count)
