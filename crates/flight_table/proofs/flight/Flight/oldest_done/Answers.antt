use Rattle.std.proofs.lemmas.Bool.{and_parts}
use Rattle.flight_table.specs.Inside.{keyed_of}
use Rattle.flight_table.specs.Tables.{KeyedTable, is_done_of, is_of}
use Rattle.flight_table.proofs.KeyLaws.{answer_names, answer_passes, smallest_done}
use Rattle.flight_table.proofs.flight.Flight.oldest_done.Goals as goal

pub returns-clause-request : goal.returns-clause-request
returns-clause-request c = rw (← c.self.view_is) (answer_names (is_done_of c.args.client) c.self.inside.live.entries c.oldest_done.result c.self.invariant.keys c.oldest_done.ensures)

pub returns-clause-smallest : goal.returns-clause-smallest
returns-clause-smallest c =
    let old : KeyedTable = keyed_of c.self.inside.accepted c.self.inside.live in
    smallest_done c.args.client old c.args.self.now c.oldest_done.result c.self.view_is c.self.invariant c.self.invariant.keys c.oldest_done.ensures

pub returns-clause-named : goal.returns-clause-named
returns-clause-named c = rw (← c.self.view_is) (answer_passes (is_done_of c.args.client) _ c.self.inside.live.entries c.oldest_done.result (λ r passes. (and_parts (is_of c.args.client r) r.done passes).1) c.self.invariant.keys c.oldest_done.ensures)
