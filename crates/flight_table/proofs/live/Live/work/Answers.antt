use Rattle.std.proofs.Common.{ap}
use Rattle.flight_table.specs.declared.sums.Sums.{Sums}
use Rattle.flight_table.proofs.live.Live.work.Goals as goal

pub returns : goal.returns
returns c = rw (← c.self.view_is) (ap (λ (s : Sums). s.work) c.self.invariant.3.sums_are)
