use Rattle.std.proofs.Common.{sym, ap, ◌∙◌}
use Rattle.std.specs.Option.{option_copied}
use Rattle.sparse_memory.proofs.SparseLaws.{no-word, word-of}
use Rattle.sparse_memory.proofs.memory.SparseMemory.word.Goals as goal

pub returns-in-Some-clause-value : goal.returns-in-Some-clause-value
returns-in-Some-clause-value c =
    word-of c.args.self.now c.args.address c.word.result c.in-Some.page.now (sym c.page_of.ensures.page ∙ ap option_copied c.in-Some.is) c.word.ensures.fits (rw c.place_of.ensures.value at c.word.ensures.word)

pub returns-in-None-clause-value : goal.returns-in-None-clause-value
returns-in-None-clause-value c = no-word c.args.self.now c.args.address (sym c.page_of.ensures.page ∙ ap option_copied c.in-None.is)
