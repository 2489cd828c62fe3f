-- The rules on pages stand before those on words.
use Rattle.std.proofs.Common.{[], sym, ◌∙◌}
use Rattle.subordinate.specs.Faults.{rules_of_pages, rules_of_words}
use Rattle.subordinate.proofs.FaultLaws.{first_broken-append-none, first_broken-append-some}
use Rattle.sparse_memory.specs.Ranges.{pages_in}
use Rattle.sparse_memory.proofs.ranges.memory_fault.Goals as goal

pub returns-in-Some : goal.returns-in-Some
returns-in-Some c =
    sym (first_broken-append-some (rules_of_pages [] 0 (pages_in c.args.ranges.now)) (rules_of_words (pages_in c.args.ranges.now) 0 c.args.bad_words.now) c.in-Some.fault (sym c.page_fault.ensures ∙ c.in-Some.is))

pub returns-in-None : goal.returns-in-None
returns-in-None c =
    c.word_fault.ensures
    ∙ sym (first_broken-append-none (rules_of_pages [] 0 (pages_in c.args.ranges.now)) (rules_of_words (pages_in c.args.ranges.now) 0 c.args.bad_words.now) (sym c.page_fault.ensures ∙ c.in-None.is))
