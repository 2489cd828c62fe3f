use Rattle.std.proofs.Common.{arith, sym, ap, ◌∙◌, Some}
use lib.Count.{count_trailing_zeros}
use Rattle.flight_table.proofs.MarkLaws.{first_none, first_some}
use Rattle.flight_table.proofs.marks.first_bit.Goals as goal

pub returns-then-bits-eq0 : goal.returns-then-bits-eq0
returns-then-bits-eq0 c = λ marks few is. sym (first_none marks (sym is ∙ c.if-bits-eq0.true))

pub returns : goal.returns
returns c =
    λ marks few is. ap (λ n. Some (count_trailing_zeros 64 n)) is ∙ sym (first_some marks (omega (arith, is, c.if-bits-eq0.false)) few)
