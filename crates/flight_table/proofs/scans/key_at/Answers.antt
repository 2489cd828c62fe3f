-- The key at the first place that passes a test is the one that a search finds.
use Rattle.std.proofs.Common.{Some, ap, sym, ◌∙◌}
use Rattle.bus_words.proofs.FirstPlaces.{position_is_first, find-first, find-none}
use Rattle.flight_table.proofs.scans.key_at.Goals as goal

pub returns-in-Some : goal.returns-in-Some
returns-in-Some c =
    λ test first.
    let order = c.args.order.now in
    let at = position_is_first test order c.in-Some.place (sym first ∙ c.in-Some.is) in
    ap Some c.index-order-place.is ∙ sym (find-first test order c.in-Some.place c.index-order-place.result at)

pub returns-in-None : goal.returns-in-None
returns-in-None c = λ test first. sym (find-none test c.args.order.now (sym first ∙ c.in-None.is))
