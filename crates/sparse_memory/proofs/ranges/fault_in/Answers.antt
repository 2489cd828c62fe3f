-- By how many of its pages have addresses of 32 bits, and which is the first that stands before.
use Rattle.std.proofs.Common.{◌≡◌, ◌-◌, min, true, false, refl, sym, ◌∙◌, arith}
use Rattle.std.specs.Prelude.{nat_lt}
use Rattle.std.proofs.lemmas.Bool.Decides.{nat_tests}
use Rattle.sparse_memory.proofs.ListedPages.{fault-of_range}
use Rattle.sparse_memory.proofs.ranges.fault_in.Goals as goal

pub beyond-requires : goal.beyond-requires
beyond-requires c = omega (arith, c.requires, c.pages_within-within.ensures)

pub returns-in-Some : goal.returns-in-Some
returns-in-Some c =
    let less : nat_lt c.in-Some.twice (min c.args.range.now.count (1048576 - c.args.range.now.first)) ≡ true = grind (arith, nat_tests, c.pages_within-within.ensures, c.if-twice-within.true) in
    sym (fault-of_range c.args.earlier.now c.args.counted c.args.range.now ∙ rw (sym c.first_in_any.ensures ∙ c.in-Some.is, less) refl)

pub returns-in-Some-2 : goal.returns-in-Some-2
returns-in-Some-2 c =
    let more : nat_lt c.in-Some.twice (min c.args.range.now.count (1048576 - c.args.range.now.first)) ≡ false = grind (arith, nat_tests, c.pages_within-within.ensures, c.if-twice-within.false) in
    c.beyond.ensures ∙ rw c.pages_within-within.ensures (sym (fault-of_range c.args.earlier.now c.args.counted c.args.range.now ∙ rw (sym c.first_in_any.ensures ∙ c.in-Some.is, more) refl))

pub returns-in-None : goal.returns-in-None
returns-in-None c = c.beyond-in-None.ensures ∙ rw c.pages_within-within.ensures (sym (fault-of_range c.args.earlier.now c.args.counted c.args.range.now ∙ rw (sym c.first_in_any.ensures ∙ c.in-None.is) refl))
