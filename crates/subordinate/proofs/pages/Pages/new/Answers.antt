-- The zero pages of the good numbers are the opening memory.
use Rattle.std.proofs.Common.{◌≡◌, ℕ, arith, length, sym, subst, ◌∙◌, ap}
use Rattle.std.proofs.lemmas.List.{length-replicate}
use Rattle.std.specs.Prelude.{replicate}
use Rattle.subordinate.specs.Effects.{HasGoodPages}
use Rattle.subordinate.specs.InsidePages.{PagesState, pages_state}
use Rattle.subordinate.specs.Pages.{opening_memory, zero_words}
use Rattle.subordinate.proofs.ApartPages.{are_apart}
use Rattle.subordinate.proofs.PagesOf.{pages_state-opening}
use Rattle.subordinate.proofs.GoodPages.{good_pages-opening}
use Rattle.subordinate.proofs.pages.Pages.new.Goals as goal

-- the fields make the opening state
opens : (c : goal.In_ok-bad) → pages_state c.in_ok-listed.listed.items c.in_ok-numbers.numbers.items c.in_ok-words.words.items c.in_ok-bad.bad.items
    ≡ record { faults = record { pages = c.args.pages.now; bad_words = c.args.bad.now }; memory = opening_memory c.args.pages.now }
opens c =
    pages_state-opening c.args.pages.now c.in_ok-listed.listed.items c.in_ok-numbers.numbers.items c.in_ok-words.words.items c.args.bad.now c.in_ok-bad.bad.items c.in_ok-listed.ensures
    c.in_ok-numbers.ensures zeros c.in_ok-bad.ensures
  where
    zeros : c.in_ok-words.words.items ≡ replicate (length c.in_ok-numbers.numbers.items) zero_words
    zeros = c.in_ok-words.ensures ∙ ap (λ (n : ℕ). replicate n zero_words) (omega arith)

pub invariant_of-result : goal.invariant_of-result
invariant_of-result c = (
  ap length c.in_ok-words.ensures ∙ length-replicate c.len.result zero_words ∙ omega arith,
  subst (λ (now : PagesState). HasGoodPages now.faults now.memory) (sym (opens c)) (good_pages-opening c.args.pages.now c.args.bad.now c.requires.fine),
  rw c.in_ok-numbers.ensures (are_apart c.args.pages.now c.args.bad.now c.requires.fine),
)

pub returns : goal.returns
returns c = opens c
