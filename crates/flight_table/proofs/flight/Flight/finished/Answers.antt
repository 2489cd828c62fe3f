use Rattle.std.proofs.Common.{refl}
use Rattle.bus_words.specs.Places.{change_first}
use Rattle.flight_table.specs.Inside.{keyed_of}
use Rattle.flight_table.specs.LiveRequests.{finished, is_settled}
use Rattle.flight_table.specs.Tables.{KeyedTable, change_entry, has_key, requests_of, table_of}
use Rattle.std.specs.Prelude.{IsTrue}
use Rattle.flight_table.proofs.Kept.{named_request}
use Rattle.flight_table.proofs.Steps.{IsChanged, change_is, gives_name, has_answers, known, settled_free, step_finished}
use Rattle.flight_table.proofs.flight.Flight.finished.Goals as goal

pub finish-requires-clause-step : goal.finish-requires-clause-step
finish-requires-clause-step c =
    let old : KeyedTable = keyed_of c.self.inside.accepted c.self.inside.live in
    let named = named_request c.args.key old.entries (λ r. IsTrue (is_settled r)) (rw (← c.self.view_is) at c.requires) in
    rw named.named (has_answers old.limits old.accepted named.request (known old c.args.key named.request c.self.invariant named.named).0 named.holds)

pub finish-requires-clause-id : goal.finish-requires-clause-id
finish-requires-clause-id c =
    let old : KeyedTable = keyed_of c.self.inside.accepted c.self.inside.live in
    let named = named_request c.args.key old.entries (λ r. IsTrue (is_settled r)) (rw (← c.self.view_is) at c.requires) in
    gives_name old c.args.key named.request c.self.invariant named.named

pub finish-requires-clause-free : goal.finish-requires-clause-free
finish-requires-clause-free c =
    let old : KeyedTable = keyed_of c.self.inside.accepted c.self.inside.live in
    let named = named_request c.args.key old.entries (λ r. IsTrue (is_settled r)) (rw (← c.self.view_is) at c.requires) in
    let facts = known old c.args.key named.request c.self.invariant named.named in
    rw named.named (settled_free old.limits old.accepted (requests_of old.entries) named.request facts.0 facts.1 named.holds)

made : (c : goal.After-finish) → IsChanged c.args.self.now (keyed_of c.self.inside.accepted c.finish.new.self) c.args.key finished
made c =
    let old : KeyedTable = keyed_of c.self.inside.accepted c.self.inside.live in
    let named = named_request c.args.key old.entries (λ r. IsTrue (is_settled r)) (rw (← c.self.view_is) at c.requires) in
    let r = named.request in
    let facts = known old c.args.key r c.self.invariant named.named in
    rw c.finish.ensures.table
    (change_is old c.args.self.now c.args.key finished r (change_first (has_key c.args.key) (change_entry finished) old.entries) c.self.view_is c.self.invariant named.named refl (rw c.finish.ensures.table at c.finish.ensures.keys)
    (step_finished (table_of old) r facts.0))

pub invariant_of-self : goal.invariant_of-self
invariant_of-self c = (made c).laws

pub returns : goal.returns
returns c = record { state = (made c).state; table = (made c).table; laws = (made c).laws }
