use Rattle.std.proofs.Common.{ap, sym, ◌∙◌}
use Rattle.std.specs.List.{position}
use Rattle.flight_table.specs.Rows.{bits_of, has_page}
use Rattle.flight_table.proofs.RowLaws.{bits_absent, bits_at}
use Rattle.flight_table.proofs.rows.Rows.slots.Goals as goal

pub place_of-requires : goal.place_of-requires
place_of-requires c = rw c.deref.ensures.value c.self.invariant.0

pub returns-in-Some-place_of : goal.returns-in-Some-place_of
returns-in-Some-place_of c =
    let page = c.in-Some.page in
    let at = ap (position (has_page page)) (sym c.deref.ensures.value) ∙ sym c.place_of.ensures ∙ c.in-Some-place_of.is in
    rw c.in-Some.is (bits_at page c.self.inside.rows.items c.in-Some-place_of.k c.index.result.now at c.index.ensures ∙ ap (bits_of page) c.self.view_is)

pub returns-in-None : goal.returns-in-None
returns-in-None c =
    let page = c.in-Some.page in
    let none = ap (position (has_page page)) (sym c.self.view_is ∙ sym c.deref.ensures.value) ∙ sym c.place_of.ensures ∙ c.in-None.is in
    rw c.in-Some.is (bits_absent page c.args.self.now none)
