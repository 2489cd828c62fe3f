-- The entry at the first place that passes a test is the one that a search finds.
use Rattle.std.proofs.Common.{Some, ap, sym, ◌∙◌}
use Rattle.bus_words.proofs.FirstPlaces.{position_is_first, find-first, find-none}
use Rattle.axi_checker.proofs.outstanding.entry_at.Goals as goal

pub returns-in-Some-clause-entry : goal.returns-in-Some-clause-entry
returns-in-Some-clause-entry g c =
    λ test first.
    let items = (g.E.Entries.side c.args.entries.now).items in
    let at = position_is_first test items c.in-Some.place (sym first ∙ c.in-Some.is) in
    ap Some c.get.ensures.value ∙ sym (find-first test items c.in-Some.place c.get.result at)

pub returns-in-None-clause-entry : goal.returns-in-None-clause-entry
returns-in-None-clause-entry g c = λ test first. sym (find-none test (g.E.Entries.side c.args.entries.now).items (sym first ∙ c.in-None.is))
