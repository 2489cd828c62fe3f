use Rattle.flight_table.specs.Inside.{keyed_of}
use Rattle.flight_table.specs.Order.{is_ready}
use Rattle.flight_table.specs.Tables.{KeyedTable, table_of}
use Rattle.flight_table.proofs.KeyLaws.{answer_names, answer_passes, none_ready, smallest_ready}
use Rattle.flight_table.proofs.flight.Flight.next_ready.Goals as goal

pub returns-clause-request : goal.returns-clause-request
returns-clause-request c =
    let old : KeyedTable = keyed_of c.self.inside.accepted c.self.inside.live in
    rw (← c.self.view_is) (answer_names (is_ready (table_of old)) old.entries c.first_ready.result c.first_ready.ensures.keys c.first_ready.ensures.key)

pub returns-clause-smallest : goal.returns-clause-smallest
returns-clause-smallest c =
    let old : KeyedTable = keyed_of c.self.inside.accepted c.self.inside.live in
    smallest_ready old c.args.self.now c.first_ready.result c.self.view_is c.self.invariant c.first_ready.ensures.keys c.first_ready.ensures.key

pub returns-clause-ready : goal.returns-clause-ready
returns-clause-ready c =
    let old : KeyedTable = keyed_of c.self.inside.accepted c.self.inside.live in
    rw (← c.self.view_is) (answer_passes (is_ready (table_of old)) _ old.entries c.first_ready.result (λ r passes. passes) c.first_ready.ensures.keys c.first_ready.ensures.key)

pub returns-clause-none : goal.returns-clause-none
returns-clause-none c =
    let old : KeyedTable = keyed_of c.self.inside.accepted c.self.inside.live in
    λ none. none_ready old c.args.self.now c.first_ready.result c.self.view_is c.first_ready.ensures.key none
