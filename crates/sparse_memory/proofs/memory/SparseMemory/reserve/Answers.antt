-- A page that gets room has the bytes and the doubts that it was said to have without.
use Rattle.std.proofs.Common.{rules, ◌≡◌, ◌/◌, ◌∙◌, None, ap, refl, sym}
use Rattle.sparse_memory.specs.Ranges.{is_unknown}
use Rattle.sparse_memory.specs.SparseMemory.{SparseState, bytes_in, doubts_in, page_in, sparse_state}
use Rattle.sparse_memory.proofs.SparseLaws.{ChangesPage, bytes-new_page, doubts-new_page, none-of}
use Rattle.sparse_memory.proofs.memory.SparseMemory.reserve.Goals as goal
use Rattle.sparse_memory.proofs.memory.SparseMemory.reserve.Goals.{Joined-branch-3}

abbrev before : Joined-branch-3 → SparseState
before c = sparse_state c.self.inside.ranges.items c.self.inside.bad.items c.self.inside.pages.entries

abbrev after : Joined-branch-3 → SparseState
after c = sparse_state c.self.inside.ranges.items c.self.inside.bad.items c.insert.new.self.entries

none : (c : Joined-branch-3) → page_in (before c) (c.args.address / 4096) ≡ None
none c = none-of _ (sym c.contains_key.ensures ∙ c.if-contains_key.false)

changes : (c : Joined-branch-3) → ChangesPage (before c) (after c) (c.args.address / 4096) c.in_ok-page.page
changes c = record { ranges = refl; becomes = c.in_ok-insert.ensures.updates.1; others = c.in_ok-insert.ensures.updates.2 }

same_doubts : (c : Joined-branch-3) → doubts_in (after c) ≡ doubts_in (before c)
same_doubts c = doubts-new_page (before c) (after c) (c.args.address / 4096) c.in_ok-page.page c.is_unknown.result (none c) known c.in_ok-page.ensures.doubts (changes c)
  where
    known : c.is_unknown.result ≡ is_unknown (before c).ranges (c.args.address / 4096)
    known = c.is_unknown.ensures ∙ ap (λ (state : SparseState). is_unknown state.ranges (c.args.address / 4096)) (sym c.self.view_is)

pub returns-clause-bytes : goal.returns-clause-bytes
returns-clause-bytes c = bytes-new_page (before c) (after c) (c.args.address / 4096) c.in_ok-page.page (none c) c.in_ok-page.ensures.bytes (changes c) ∙ ap bytes_in c.self.view_is

pub invariant_of-self-2 : goal.invariant_of-self-2
invariant_of-self-2 c =
    let d = (goal.at.invariant_of-self-2 c).Joined-branch-3 in
    (search rules, λ known x. ap (λ doubts. doubts x) (same_doubts d) ∙ c.self.invariant.1 known x)

pub returns-clause-doubts : goal.returns-clause-doubts
returns-clause-doubts c = same_doubts c ∙ ap doubts_in c.self.view_is
