-- A page is what its first entry in the list says.
use Rattle.std.proofs.Common.{ap, sym, ◌∙◌}
use Rattle.subordinate.specs.Faults.{is_good}
use Rattle.subordinate.specs.declared.PageKind.TheVariants.{Good, SlaveError}
use Rattle.subordinate.proofs.FaultLaws.{standing-found, standing-missing}
use Rattle.subordinate.proofs.faults.is_good_page.Goals as goal

pub returns-in-Good : goal.returns-in-Good
returns-in-Good c = sym (ap is_good (standing-found c.args.pages.now c.args.number c.in-Some.place (0, Good) Good (sym c.place_of.ensures ∙ c.in-Some.is) c.in-Good.is))

pub returns-in_default : goal.returns-in_default
returns-in_default c =
    sym (ap is_good (standing-found c.args.pages.now c.args.number c.in-Some.place (0, Good) SlaveError (sym c.place_of.ensures ∙ c.in-Some.is) c.in_default.is))

pub returns-in-None : goal.returns-in-None
returns-in-None c = sym (ap is_good (standing-missing c.args.pages.now c.args.number (sym c.place_of.ensures ∙ c.in-None.is)))
