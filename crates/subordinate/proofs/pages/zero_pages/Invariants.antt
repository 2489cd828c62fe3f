-- The pages so far are all zero.
use Rattle.std.proofs.Common.{◌≡◌, replicate}
use Rattle.subordinate.specs.Pages.{zero_words}
use Rattle.subordinate.proofs.pages.zero_pages.Given as goal

abbrev pub invariant-loop : goal.invariant-loop
invariant-loop l = l.pages.items ≡ replicate l.counter zero_words
