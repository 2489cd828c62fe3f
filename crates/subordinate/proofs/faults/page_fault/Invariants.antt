-- The pages so far break no rule: the first rule broken is that of the pages from here on.
use Rattle.std.proofs.Common.{◌≡◌, [], take, drop}
use Rattle.bus_words.specs.Tables.{first_broken}
use Rattle.subordinate.specs.Faults.{rules_of_pages}
use Rattle.subordinate.proofs.faults.page_fault.Given as goal

abbrev pub invariant-loop-place : goal.invariant-loop-place
invariant-loop-place l = first_broken (rules_of_pages (take l.place l.pages) l.place (drop l.place l.pages)) ≡ first_broken (rules_of_pages [] 0 l.pages)
