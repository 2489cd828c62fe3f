use Rattle.std.proofs.Common.{true, false, sym, ap, ◌∙◌}
use Rattle.std.specs.Option.{option_copied}
use Rattle.sparse_memory.specs.SparseMemory.{SparseState, doubts_in}
use Rattle.sparse_memory.proofs.KnownLaws.{known-mask}
use Rattle.sparse_memory.proofs.SparseLaws.{mask-of, no-mask}
use Rattle.sparse_memory.proofs.memory.SparseMemory.doubts.Goals as goal

pub returns-then-self-clause-value : goal.returns-then-self-clause-value
returns-then-self-clause-value c = known-mask (doubts_in c.args.self.now) c.args.address (λ x. ap (λ (state : SparseState). doubts_in state x) (sym c.self.view_is) ∙ c.self.invariant.1 c.if-self.true x)

pub returns-in-Some-clause-value : goal.returns-in-Some-clause-value
returns-in-Some-clause-value c =
    mask-of c.args.self.now c.args.address c.doubts.result c.in-Some.page.now (sym c.page_of.ensures.page ∙ ap option_copied c.in-Some.is) c.doubts.ensures.fits (rw c.place_of.ensures.value at c.doubts.ensures.mask)

pub returns-in-None-clause-value : goal.returns-in-None-clause-value
returns-in-None-clause-value c = no-mask c.args.self.now c.args.address true (sym c.page_of.ensures.page ∙ ap option_copied c.in-None.is) (sym c.if-is_unknown.true ∙ c.is_unknown.ensures)

pub returns-in-None-2-clause-value : goal.returns-in-None-2-clause-value
returns-in-None-2-clause-value c = no-mask c.args.self.now c.args.address false (sym c.page_of.ensures.page ∙ ap option_copied c.in-None-2.is) (sym c.if-is_unknown.false ∙ c.is_unknown.ensures)
