use Rattle.flight_table.specs.Inside.{stored}
use Rattle.flight_table.specs.Tables.{has_number}
use Rattle.flight_table.proofs.scans.of_number.Goals as goal

pub returns : goal.returns
returns c = c.key_at.ensures (λ k. has_number c.args.number (stored c.args.requests.now k)) c.place_of_number.ensures
