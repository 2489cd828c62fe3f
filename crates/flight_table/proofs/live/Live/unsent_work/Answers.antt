use Rattle.std.proofs.Common.{ap, arith}
use Rattle.flight_table.specs.declared.sums.Sums.{Sums}
use Rattle.flight_table.specs.Tables.{requests_of}
use Rattle.flight_table.proofs.SumLaws.{are_small}
use Rattle.flight_table.proofs.live.Live.unsent_work.Goals as goal

pub returns-clause-work : goal.returns-clause-work
returns-clause-work c = rw (← c.self.view_is) (ap (λ (s : Sums). s.unsent) c.self.invariant.3.sums_are)

pub returns-clause-most : goal.returns-clause-most
returns-clause-most c = omega (arith, ap (λ (s : Sums). s.unsent) c.self.invariant.3.sums_are, (are_small (requests_of c.self.inside.slots) c.self.invariant.3.few c.self.invariant.3.small).unsent)
