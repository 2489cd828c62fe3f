-- The word stands in the page of its number, if there is one.
use Rattle.std.proofs.Common.{◌≡◌, None, Some, position, sym, ◌∙◌, ap}
use Rattle.subordinate.specs.InsidePages.{PagesState}
use Rattle.subordinate.specs.Pages.{word_at}
use Rattle.subordinate.proofs.PagesOf.{is_page_of, word_at-pages_of, word_at-none}
use Rattle.subordinate.proofs.pages.Pages.word_at.Goals as goal

pub place_of-requires : goal.place_of-requires
place_of-requires c = rw c.deref.ensures.value c.self.invariant.2

pub returns-in-Some-clause-word : goal.returns-in-Some-clause-word
returns-in-Some-clause-word c =
    sym (word_at-pages_of c.self.inside.numbers.items c.self.inside.words.items c.args.address c.in-Some.place c.index.result.now c.self.invariant.0 found c.index.ensures)
    ∙ ap (λ (pages : PagesState). word_at pages.memory c.args.address) c.self.view_is
  where
    found : position (is_page_of c.args.address) c.self.inside.numbers.items ≡ Some c.in-Some.place
    found = ap (position (is_page_of c.args.address)) (sym c.deref.ensures.value) ∙ sym c.place_of.ensures ∙ c.in-Some.is

pub returns-in-None-clause-word : goal.returns-in-None-clause-word
returns-in-None-clause-word c =
    sym (word_at-none c.self.inside.numbers.items c.self.inside.words.items c.args.address c.self.invariant.0 missing)
    ∙ ap (λ (pages : PagesState). word_at pages.memory c.args.address) c.self.view_is
  where
    missing : position (is_page_of c.args.address) c.self.inside.numbers.items ≡ None
    missing = ap (position (is_page_of c.args.address)) (sym c.deref.ensures.value) ∙ sym c.place_of.ensures ∙ c.in-None.is
