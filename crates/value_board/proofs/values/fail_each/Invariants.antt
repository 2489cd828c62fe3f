-- The others are still to fail.
use Rattle.std.proofs.Common.{◌≡◌, drop}
use Rattle.value_memory.specs.States.{contents_of}
use Rattle.value_memory.specs.ValueMemory.{KeepsCounts}
use Rattle.value_board.specs.Values.{failed_each}
use Rattle.value_board.proofs.values.fail_each.Given as goal

abbrev pub invariant-loop-begun : goal.invariant-loop-begun
invariant-loop-begun l =
    (failed_each l.span (drop l.begun-index l.live) (contents_of l.memory) ≡ failed_each l.span l.live (contents_of l.fn.memory)) × KeepsCounts l.fn.memory l.memory
