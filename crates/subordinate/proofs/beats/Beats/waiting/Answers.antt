-- No more wait than there are.
use Rattle.std.proofs.Common.{List, length, arith, ap}
use Rattle.subordinate.specs.declared.BeatState.{BeatState}
use Rattle.subordinate.proofs.BeatStates.{count_waiting-le}
use Rattle.subordinate.proofs.beats.Beats.waiting.Goals as goal

pub returns-clause-some : goal.returns-clause-some
returns-clause-some c = omega (arith, count_waiting-le c.self.inside.states.items, c.self.invariant.2, ap (λ (beats : List BeatState). length beats) c.self.view_is)

pub returns-clause-most : goal.returns-clause-most
returns-clause-most c = omega (arith, count_waiting-le c.self.inside.states.items, c.self.invariant.2, c.self.invariant.1)
