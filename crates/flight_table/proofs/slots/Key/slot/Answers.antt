use Rattle.std.proofs.Common.{arith, ◌∙◌}
use Rattle.flight_table.proofs.slots.Key.slot.Goals as goal

pub returns-clause-value : goal.returns-clause-value
returns-clause-value c = c.from.ensures ∙ c.self.view_is

pub returns-clause-within : goal.returns-clause-within
returns-clause-within c = omega (arith, c.from.ensures, c.self.invariant)
