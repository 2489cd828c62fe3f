-- What stands behind the row never comes first.
use Rattle.std.proofs.Common.{◌==◌, ◌≤◌, ℕ, Bool, Some, length, ap, ◌∙◌, arith}
use Rattle.std.specs.List.{position}
use Rattle.axi_checker.proofs.RowPlaces.{first_of_more, none_of_more}
use Rattle.axi_checker.proofs.id_row.IdRowIds.first.Goals as goal

pub returns-then-place-self : goal.returns-then-place-self
returns-then-place-self c =
    let row = c.self.inside in
    let same : ℕ → Bool = λ other. other == c.args.id in
    let found = c.bytes_before-place.ensures in
    let there : row.len ≤ length row.ids = omega (arith, c.self.invariant, c.self.told) in
    ap Some found ∙ first_of_more same row.len 64 row.ids c.self.invariant there (rw found at c.if-place-self.true) ∙ ap (position same) c.self.view_is

pub returns-else-place-self : goal.returns-else-place-self
returns-else-place-self c =
    let row = c.self.inside in
    let same : ℕ → Bool = λ other. other == c.args.id in
    let there : row.len ≤ length row.ids = omega (arith, c.self.invariant, c.self.told) in
    let beyond = rw c.bytes_before-place.ensures at c.if-place-self.false in
    none_of_more same row.len 64 row.ids c.self.invariant there beyond ∙ ap (position same) c.self.view_is
