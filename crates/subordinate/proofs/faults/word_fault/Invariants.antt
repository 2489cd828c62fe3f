-- The words so far break no rule: the first rule broken is that of the words from here on.
use Rattle.std.proofs.Common.{◌≡◌, drop}
use Rattle.bus_words.specs.Tables.{first_broken}
use Rattle.subordinate.specs.Faults.{rules_of_words}
use Rattle.subordinate.proofs.faults.word_fault.Given as goal

abbrev pub invariant-loop-place : goal.invariant-loop-place
invariant-loop-place l = first_broken (rules_of_words l.pages l.place (drop l.place l.bad)) ≡ first_broken (rules_of_words l.pages 0 l.bad)
