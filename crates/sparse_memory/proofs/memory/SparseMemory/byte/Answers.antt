use Rattle.std.proofs.Common.{sym, ap, ◌∙◌}
use Rattle.std.specs.Option.{option_copied}
use Rattle.sparse_memory.proofs.SparseLaws.{byte-read, byte-zero}
use Rattle.sparse_memory.proofs.memory.SparseMemory.byte.Goals as goal

pub returns-in-Some-clause-value : goal.returns-in-Some-clause-value
returns-in-Some-clause-value c = rw (c.lane_byte.ensures, c.word.ensures.word, c.place_of.ensures.value, c.lane_of.ensures.value) (byte-read c.args.self.now c.args.address c.in-Some.page.now (sym c.page_of.ensures.page ∙ ap option_copied c.in-Some.is) c.page_of.ensures.sound)

pub returns-in-None-clause-value : goal.returns-in-None-clause-value
returns-in-None-clause-value c = byte-zero c.args.self.now c.args.address (sym c.page_of.ensures.page ∙ ap option_copied c.in-None.is) (sym c.is_good.ensures.value ∙ c.if-is_good.true)
