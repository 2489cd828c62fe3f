use Rattle.std.proofs.Common.{ap, refl}
use Rattle.bus_words.specs.Places.{without_first}
use Rattle.flight_table.specs.Inside.{keyed_of}
use Rattle.flight_table.specs.LiveRequests.{LiveRequest}
use Rattle.flight_table.specs.Tables.{KeyedTable, has_key}
use Rattle.std.specs.Prelude.{IsTrue}
use Rattle.flight_table.proofs.Kept.{named_request}
use Rattle.flight_table.proofs.Steps.{has_no_name}
use Rattle.flight_table.proofs.NewRequests.{IsReleased, release_is}
use Rattle.flight_table.proofs.flight.Flight.release.Goals as goal

pub remove-requires-clause-no_id : goal.remove-requires-clause-no_id
remove-requires-clause-no_id c =
    let old : KeyedTable = keyed_of c.self.inside.accepted c.self.inside.live in
    let named = named_request c.args.key old.entries (λ r. IsTrue r.done) (rw (← c.self.view_is) at c.requires) in
    has_no_name old c.args.key named.request c.self.invariant named.named named.holds

made : (c : goal.After-remove) → IsReleased c.args.self.now (keyed_of c.self.inside.accepted c.remove.new.self) c.get.result.now.number
made c =
    let old : KeyedTable = keyed_of c.self.inside.accepted c.self.inside.live in
    rw c.remove.ensures.table
    (release_is old c.args.self.now c.args.key c.get.result.now (without_first (has_key c.args.key) old.entries) c.self.view_is c.self.invariant c.get.ensures.request refl (rw c.remove.ensures.table at c.remove.ensures.keys))

pub invariant_of-self : goal.invariant_of-self
invariant_of-self c = (made c).laws

pub returns-clause-table : goal.returns-clause-table
returns-clause-table c = rw (ap (λ (r : LiveRequest). r.number) c.behind-self.view_is) (made c).table

pub returns-clause-laws : goal.returns-clause-laws
returns-clause-laws c = (made c).laws
