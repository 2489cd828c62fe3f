-- The ID is looked for among all bytes.
use Rattle.std.proofs.Common.{◌==◌, ◌∙◌, ap}
use Rattle.std.specs.List.{position}
use Rattle.memchr.specs.Find.{IsFirstByte, is_byte}
use Rattle.axi_checker.specs.Monitors.{OpenSide}
use Rattle.std.proofs.Common.{ℕ, subst, List}
use Rattle.axi_checker.proofs.BytePlaces.{first_byte}
use Rattle.axi_checker.proofs.long_row.LongRowIds.first.Goals as goal

pub returns : goal.returns
returns c =
    let found = subst (λ (bytes : List ℕ). IsFirstByte (is_byte c.args.id) bytes c.memchr.result) c.as_slice.ensures.value c.memchr.ensures in
    first_byte (is_byte c.args.id) c.self.inside.ids.items c.memchr.result found
    ∙ ap (λ (side : OpenSide ℕ). position (λ other. other == c.args.id) side.items) c.self.view_is
