use Rattle.std.proofs.Common.{◌≡◌}
use Rattle.flight_table.specs.Inside.{keyed_of}
use Rattle.flight_table.specs.Order.{holds_id}
use Rattle.flight_table.specs.Tables.{key_in}
use Rattle.flight_table.proofs.KeyLaws.{answer_names, answer_passes}
use Rattle.flight_table.proofs.Steps.{held_beyond}
use Rattle.flight_table.proofs.flight.Flight.of_id.Goals as goal

key : (c : goal.After-of_id) → c.of_id.result ≡ key_in (holds_id c.args.id) c.self.inside.live.entries
key c = held_beyond (keyed_of c.self.inside.accepted c.self.inside.live) c.args.id c.of_id.result c.self.invariant c.of_id.ensures.key c.of_id.ensures.beyond

pub returns-clause-key : goal.returns-clause-key
returns-clause-key c = rw (← c.self.view_is) (key c)

pub returns-clause-request : goal.returns-clause-request
returns-clause-request c = rw (← c.self.view_is) (answer_names (holds_id c.args.id) c.self.inside.live.entries c.of_id.result c.self.invariant.keys (key c))

pub returns-clause-named : goal.returns-clause-named
returns-clause-named c = rw (← c.self.view_is) (answer_passes (holds_id c.args.id) _ c.self.inside.live.entries c.of_id.result (λ r passes. passes) c.self.invariant.keys (key c))
