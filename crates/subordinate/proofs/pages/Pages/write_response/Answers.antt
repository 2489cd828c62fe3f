-- A page is what its first entry in the list says.
use Rattle.std.proofs.Common.{◌≡◌, ◌/◌, ℕ, List, Option, true, is_some, None, Some, get_or, position, sym, ◌∙◌, ap}
use Rattle.subordinate.specs.Faults.{lists_page, standing_at, write_response}
use Rattle.subordinate.specs.InsidePages.{PagesState}
use Rattle.subordinate.specs.declared.PageKind.{PageKind}
use Rattle.subordinate.specs.declared.PageKind.TheVariants.{Good, SlaveError}
use Rattle.subordinate.proofs.ApartPages.{okay_at}
use Rattle.subordinate.proofs.PagesOf.{is_page_of}
use Rattle.subordinate.proofs.FaultLaws.{standing-found, standing-missing}
use Rattle.subordinate.proofs.pages.Pages.write_response.Goals as goal

pub place_of-requires : goal.place_of-requires
place_of-requires c = rw c.deref.ensures.value c.self.invariant.2

pub returns-then-is_some-clause-value : goal.returns-then-is_some-clause-value
returns-then-is_some-clause-value c =
    let i = c.self.inside in
    let some : is_some (position (is_page_of c.args.address) i.numbers.items) ≡ true =
    ap (λ (numbers : List ℕ). is_some (position (is_page_of c.args.address) numbers)) (sym c.deref.ensures.value) ∙ sym (ap (λ (o : Option ℕ). is_some o) c.place_of.ensures) ∙ sym c.is_some.ensures ∙ c.if-is_some.true in
    okay_at i.listed.items i.numbers.items i.words.items i.bad.items c.args.address c.self.invariant.0 c.self.invariant.1 some
    ∙ ap (λ (pages : PagesState). write_response (standing_at pages.faults c.args.address)) c.self.view_is

pub returns-in-Good-clause-value : goal.returns-in-Good-clause-value
returns-in-Good-clause-value c =
    ap write_response (sym (standing-found c.self.inside.listed.items (c.args.address / 4096) c.in-Some.place c.index.result.now Good found is))
    ∙ ap (λ (pages : PagesState). write_response (standing_at pages.faults c.args.address)) c.self.view_is
  where
    found : position (lists_page (c.args.address / 4096)) c.self.inside.listed.items ≡ Some c.in-Some.place
    found = ap (position (lists_page (c.args.address / 4096))) (sym c.deref-2.ensures.value) ∙ sym c.listed_at.ensures ∙ c.in-Some.is

    is : (get_or c.self.inside.listed.items c.in-Some.place c.index.result.now).1 ≡ Good
    is = ap (λ (page : ℕ × PageKind). page.1) (sym c.index.ensures) ∙ c.in-Good.is

pub returns-in-SlaveError-clause-value : goal.returns-in-SlaveError-clause-value
returns-in-SlaveError-clause-value c =
    ap write_response (sym (standing-found c.self.inside.listed.items (c.args.address / 4096) c.in-Some.place c.index.result.now SlaveError found is))
    ∙ ap (λ (pages : PagesState). write_response (standing_at pages.faults c.args.address)) c.self.view_is
  where
    found : position (lists_page (c.args.address / 4096)) c.self.inside.listed.items ≡ Some c.in-Some.place
    found = ap (position (lists_page (c.args.address / 4096))) (sym c.deref-2.ensures.value) ∙ sym c.listed_at.ensures ∙ c.in-Some.is

    is : (get_or c.self.inside.listed.items c.in-Some.place c.index.result.now).1 ≡ SlaveError
    is = ap (λ (page : ℕ × PageKind). page.1) (sym c.index.ensures) ∙ c.in-SlaveError.is

pub returns-in-None-clause-value : goal.returns-in-None-clause-value
returns-in-None-clause-value c =
    ap write_response (sym (standing-missing c.self.inside.listed.items (c.args.address / 4096) missing))
    ∙ ap (λ (pages : PagesState). write_response (standing_at pages.faults c.args.address)) c.self.view_is
  where
    missing : position (lists_page (c.args.address / 4096)) c.self.inside.listed.items ≡ None
    missing = ap (position (lists_page (c.args.address / 4096))) (sym c.deref-2.ensures.value) ∙ sym c.listed_at.ensures ∙ c.in-None.is
