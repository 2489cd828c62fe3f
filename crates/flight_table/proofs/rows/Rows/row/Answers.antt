use Rattle.flight_table.proofs.rows.Rows.row.Goals as goal

pub of-requires-clause-fits : goal.of-requires-clause-fits
of-requires-clause-fits c = c.slots.type_inv
