-- Just one page is changed, and in it just the strobed bytes of one word.
use Rattle.std.proofs.Common.{rules, ◌≡◌, ◌/◌, ◌%◌, ◌∙◌, Option, Some, ap, is_some, refl, sym}
use Rattle.sparse_memory.specs.SparseMemory.{PageState, SparseState, bytes_in, doubts_in, page_in, put_word, sparse_state}
use Rattle.sparse_memory.proofs.PageLaws.{with_word}
use Rattle.sparse_memory.proofs.SparseLaws.{ChangesPage, bytes-put, doubts-kept}
use Rattle.sparse_memory.proofs.memory.SparseMemory.put_word.Goals as goal
use Rattle.sparse_memory.proofs.memory.SparseMemory.put_word.Goals.{After-put_word}

abbrev before : After-put_word → SparseState
before c = sparse_state c.self.inside.ranges.items c.self.inside.bad.items c.self.inside.pages.entries

abbrev after : After-put_word → SparseState
after c = sparse_state c.self.inside.ranges.items c.self.inside.bad.items (c.get_mut.follows.lender c.put_word.new.self).entries

there : (c : After-put_word) → page_in (before c) (c.args.address / 4096) ≡ Some c.in-Some.page.now
there c = sym c.in-Some.ensures.value

changes : (c : After-put_word) → ChangesPage (before c) (after c) (c.args.address / 4096) (with_word c.in-Some.page.now (c.args.address % 4096 / 8) c.args.word c.args.strobes)
changes c =
    let updates = (c.get_mut.follows.holds c.put_word.new.self).3 (ap (λ (o : Option PageState). is_some o) (there c)) in
    record { ranges = refl; becomes = updates.1 ∙ ap Some (rw c.place_of.ensures.value at c.put_word.ensures.word); others = updates.2 }

pub returns-clause-bytes : goal.returns-clause-bytes
returns-clause-bytes c =
    let d = (goal.at.returns-clause-bytes c).After-put_word in
    bytes-put (before d) (after d) c.args.address c.args.word c.args.strobes c.in-Some.page.now (there d) c.put_word.ensures.whole (changes d)
    ∙ ap (λ (state : SparseState). put_word c.args.address c.args.word c.args.strobes (bytes_in state)) c.self.view_is

pub returns-clause-doubts : goal.returns-clause-doubts
returns-clause-doubts c =
    let d = (goal.at.returns-clause-doubts c).After-put_word in
    doubts-kept (before d) (after d) (c.args.address / 4096) c.in-Some.page.now _ (there d) refl (changes d) ∙ ap doubts_in c.self.view_is

pub invariant_of-self-2 : goal.invariant_of-self-2
invariant_of-self-2 c =
    let d = (goal.at.invariant_of-self-2 c).After-put_word in
    (search rules, λ known x. ap (λ doubts. doubts x) (doubts-kept (before d) (after d) (c.args.address / 4096) c.in-Some.page.now _ (there d) refl (changes d)) ∙ c.self.invariant.1 known x)
