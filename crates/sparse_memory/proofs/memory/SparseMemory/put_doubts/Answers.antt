-- Just one page is changed, and in it just the strobed bytes of one word.
use Rattle.std.proofs.Common.{rules, ◌≡◌, ◌/◌, ◌%◌, ◌==◌, ◌∙◌, bit_and, Option, Some, ap, is_some, refl, sym}
use Rattle.std.proofs.lemmas.Bool.{and_parts, eqb-true}
use Rattle.sparse_memory.specs.SparseMemory.{PageState, SparseState, bytes_in, doubts_in, page_in, put_flags, sparse_state}
use Rattle.sparse_memory.proofs.KnownLaws.{known-put}
use Rattle.sparse_memory.proofs.PageLaws.{with_doubts}
use Rattle.sparse_memory.proofs.SparseLaws.{ChangesPage, doubts-put, bytes-kept}
use Rattle.sparse_memory.proofs.memory.SparseMemory.put_doubts.Goals as goal
use Rattle.sparse_memory.proofs.memory.SparseMemory.put_doubts.Goals.{After-put_doubts}

abbrev before : After-put_doubts → SparseState
before c = sparse_state c.self.inside.ranges.items c.self.inside.bad.items c.self.inside.pages.entries

abbrev after : After-put_doubts → SparseState
after c = sparse_state c.self.inside.ranges.items c.self.inside.bad.items (c.get_mut.follows.lender c.put_doubts.new.self).entries

there : (c : After-put_doubts) → page_in (before c) (c.args.address / 4096) ≡ Some c.in-Some.page.now
there c = sym c.in-Some.ensures.value

changes : (c : After-put_doubts) → ChangesPage (before c) (after c) (c.args.address / 4096) (with_doubts c.in-Some.page.now (c.args.address % 4096 / 8) c.args.doubts c.args.strobes)
changes c =
    let updates = (c.get_mut.follows.holds c.put_doubts.new.self).3 (ap (λ (o : Option PageState). is_some o) (there c)) in
    record { ranges = refl; becomes = updates.1 ∙ ap Some (rw c.place_of.ensures.value at c.put_doubts.ensures.doubts); others = updates.2 }

pub returns-clause-bytes : goal.returns-clause-bytes
returns-clause-bytes c =
    let d = (goal.at.returns-clause-bytes c).After-put_doubts in
    bytes-kept (before d) (after d) (c.args.address / 4096) c.in-Some.page.now _ (there d) refl (changes d) ∙ ap bytes_in c.self.view_is

pub returns-clause-doubts : goal.returns-clause-doubts
returns-clause-doubts c =
    let d = (goal.at.returns-clause-doubts c).After-put_doubts in
    doubts-put (before d) (after d) c.args.address c.args.doubts c.args.strobes c.in-Some.page.now (there d) c.put_doubts.ensures.whole (changes d)
    ∙ ap (λ (state : SparseState). put_flags c.args.address c.args.doubts c.args.strobes (doubts_in state)) c.self.view_is

pub invariant_of-self-2 : goal.invariant_of-self-2
invariant_of-self-2 c =
    let d = (goal.at.invariant_of-self-2 c).After-put_doubts in (
      search rules,
      λ known x.
          let (before_known, none) = and_parts c.self.inside.knows_all (bit_and c.args.doubts c.args.strobes == 0) known in
          ap (λ doubts. doubts x) (doubts-put (before d) (after d) c.args.address c.args.doubts c.args.strobes c.in-Some.page.now (there d) c.put_doubts.ensures.whole (changes d))
          ∙ known-put (doubts_in (before d)) c.args.address c.args.doubts c.args.strobes (c.self.invariant.1 before_known) (eqb-true (bit_and c.args.doubts c.args.strobes) 0 none) x,
    )
