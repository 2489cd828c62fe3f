-- The words so far break no rule: the first rule broken is that of the words from here on.
use Rattle.std.proofs.Common.{◌≡◌, drop}
use Rattle.bus_words.specs.Tables.{first_broken}
use Rattle.subordinate.specs.Faults.{rules_of_words}
use Rattle.sparse_memory.specs.Ranges.{pages_in}
use Rattle.sparse_memory.proofs.ranges.word_fault.Given as goal

abbrev pub invariant-loop-place : goal.invariant-loop-place
invariant-loop-place l = first_broken (rules_of_words (pages_in l.ranges) l.place (drop l.place l.bad_words)) ≡ first_broken (rules_of_words (pages_in l.ranges) 0 l.bad_words)
