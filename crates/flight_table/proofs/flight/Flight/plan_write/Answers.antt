use Rattle.std.proofs.Common.{IsTrue, refl}
use Rattle.bus_words.specs.Places.{change_first}
use Rattle.flight_table.specs.Inside.{keyed_of}
use Rattle.flight_table.specs.LiveRequests.{awaits_write, with_write}
use Rattle.flight_table.specs.Tables.{KeyedTable, change_entry, has_key, requests_of, table_of}
use Rattle.flight_table.proofs.Kept.{named_request}
use Rattle.flight_table.proofs.Steps.{IsChanged, awaits_parts, change_is, has_answers, keeps_name, known, step_write}
use Rattle.flight_table.proofs.flight.Flight.plan_write.Goals as goal

pub take-requires-clause-step : goal.take-requires-clause-step
take-requires-clause-step c =
    let old : KeyedTable = keyed_of c.self.inside.accepted c.self.inside.live in
    let named = named_request c.args.key old.entries (λ r. IsTrue (awaits_write r)) (rw (← c.self.view_is) at c.requires) in
    let facts = known old c.args.key named.request c.self.invariant named.named in
    let awaits = awaits_parts named.request named.holds in
    rw named.named (awaits.undone, awaits.reads, has_answers old.limits old.accepted named.request facts.0 awaits.settled)

pub take-requires-clause-id : goal.take-requires-clause-id
take-requires-clause-id c =
    let old : KeyedTable = keyed_of c.self.inside.accepted c.self.inside.live in
    let named = named_request c.args.key old.entries (λ r. IsTrue (awaits_write r)) (rw (← c.self.view_is) at c.requires) in
    keeps_name old.limits.ids (requests_of old.entries) c.args.key old.entries with_write named.request named.named refl

made : (c : goal.After-take) → IsChanged c.args.self.now (keyed_of c.self.inside.accepted c.take.new.self) c.args.key with_write
made c =
    let old : KeyedTable = keyed_of c.self.inside.accepted c.self.inside.live in
    let named = named_request c.args.key old.entries (λ r. IsTrue (awaits_write r)) (rw (← c.self.view_is) at c.requires) in
    let r = named.request in
    let facts = known old c.args.key r c.self.invariant named.named in
    rw c.take.ensures.table
    (change_is old c.args.self.now c.args.key with_write r (change_first (has_key c.args.key) (change_entry with_write) old.entries) c.self.view_is c.self.invariant named.named refl (rw c.take.ensures.table at c.take.ensures.keys)
    (step_write (table_of old) r facts.0 facts.1 (awaits_parts r named.holds)))

pub invariant_of-self : goal.invariant_of-self
invariant_of-self c = (made c).laws

pub returns : goal.returns
returns c = record { state = (made c).state; table = (made c).table; laws = (made c).laws }
