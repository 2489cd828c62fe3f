use Rattle.flight_table.proofs.flight.Flight.accept.Goals as goal

pub returns-clause-number : goal.returns-clause-number
returns-clause-number c = c.accept_keyed.ensures.number

pub returns-clause-table : goal.returns-clause-table
returns-clause-table c = rw c.accept_keyed.ensures.number c.accept_keyed.ensures.table

pub returns-clause-state : goal.returns-clause-state
returns-clause-state c = rw c.accept_keyed.ensures.number (c.accept_keyed.result.1, c.accept_keyed.ensures.fresh, c.accept_keyed.ensures.state)
