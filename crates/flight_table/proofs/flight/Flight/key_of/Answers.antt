use Rattle.std.proofs.lemmas.Bool.{eqb-true}
use Rattle.flight_table.specs.Tables.{has_number}
use Rattle.flight_table.proofs.KeyLaws.{answer_names, answer_passes}
use Rattle.flight_table.proofs.flight.Flight.key_of.Goals as goal

pub returns-clause-request : goal.returns-clause-request
returns-clause-request c = rw (← c.self.view_is) (answer_names (has_number c.args.number) c.self.inside.live.entries c.of_number.result c.of_number.ensures.keys c.of_number.ensures.key)

pub returns-clause-named : goal.returns-clause-named
returns-clause-named c = rw (← c.self.view_is) (answer_passes (has_number c.args.number) _ c.self.inside.live.entries c.of_number.result (λ r passes. eqb-true r.number c.args.number passes) c.of_number.ensures.keys c.of_number.ensures.key)
