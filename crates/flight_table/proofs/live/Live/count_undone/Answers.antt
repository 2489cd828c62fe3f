use Rattle.std.proofs.Common.{◌∙◌, ap, arith}
use Rattle.flight_table.specs.declared.sums.Sums.{Sums}
use Rattle.flight_table.specs.Tables.{requests_of}
use Rattle.flight_table.proofs.SumLaws.{are_small, count_undone}
use Rattle.flight_table.proofs.live.Live.count_undone.Goals as goal

pub returns-clause-count : goal.returns-clause-count
returns-clause-count c = rw (← c.self.view_is) (ap (λ (s : Sums). s.undone) c.self.invariant.3.sums_are ∙ count_undone (requests_of c.self.inside.slots))

pub returns-clause-bound : goal.returns-clause-bound
returns-clause-bound c = omega (arith, ap (λ (s : Sums). s.undone) c.self.invariant.3.sums_are, (are_small (requests_of c.self.inside.slots) c.self.invariant.3.few c.self.invariant.3.small).undone)
