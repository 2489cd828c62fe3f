-- The 64 bytes behind the place moved over it, and those of the row with them.
use Rattle.std.proofs.Common.{◌<◌, ◌≤◌, ℕ, List, length, ap, ◌∙◌, arith}
use Rattle.std.specs.List.{remove}
use Rattle.std.proofs.lemmas.List.{length-take-le}
use Rattle.axi_checker.proofs.RowPlaces.{gap_closed}
use Rattle.axi_checker.proofs.id_row.IdRowIds.remove.Goals as goal

pub returns-clause-items : goal.returns-clause-items
returns-clause-items c =
    let row = c.self.inside in
    let place = c.args.place in
    let few : row.len ≤ 64 = c.self.invariant in
    let count = length-take-le row.len row.ids (omega (arith, few, c.self.told)) in
    let here : place < row.len = omega (arith, c.requires, ap length c.self.view_is, count) in
    gap_closed row.ids c.close_gap.new.bytes row.len place here few (omega (arith, here, few, c.self.told)) c.close_gap.ensures
    ∙ ap (λ (ids : List ℕ). remove ids place) c.self.view_is
