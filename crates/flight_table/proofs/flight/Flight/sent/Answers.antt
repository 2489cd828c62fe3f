use Rattle.std.proofs.Common.{refl, ◌≡◌, ◌∙◌, Some, sym}
use Rattle.bus_words.specs.Places.{change_first}
use Rattle.flight_table.specs.Inside.{keyed_of}
use Rattle.flight_table.specs.LiveRequests.{with_sent, LiveRequest}
use Rattle.flight_table.specs.Order.{id_for}
use Rattle.flight_table.specs.Tables.{KeyedTable, change_entry, has_key, requests_of, table_of}
use Rattle.flight_table.proofs.Steps.{IsChanged, sent_name, change_is, known, ready_parts, seen, sends, step_sent}
use Rattle.flight_table.proofs.flight.Flight.sent.Goals as goal

pub unwrap-id-requires : goal.unwrap-id-requires
unwrap-id-requires c =
    let old : KeyedTable = keyed_of c.self.inside.accepted c.self.inside.live in
    let r = c.get.result.now in
    rw c.id_for.ensures (ready_parts (table_of old) r (sends old c.args.self.now c.args.key r c.self.view_is c.get.ensures.request c.requires)).some

pub take-requires-clause-step : goal.take-requires-clause-step
take-requires-clause-step c =
    let old : KeyedTable = keyed_of c.self.inside.accepted c.self.inside.live in
    let r = c.get.result.now in
    let ready = ready_parts (table_of old) r (sends old c.args.self.now c.args.key r c.self.view_is c.get.ensures.request c.requires) in
    rw c.get.ensures.request (ready.undone, ready.more)

pub take-requires-clause-id : goal.take-requires-clause-id
take-requires-clause-id c =
    let live = c.self.inside.live in
    sent_name live.limits (requests_of live.entries) c.args.key live.entries c.get.result.now c.unwrap-id.result c.get.ensures.request (sym c.id_for.ensures ∙ c.unwrap-id.ensures)

made : (c : goal.After-take) → IsChanged c.args.self.now (keyed_of c.self.inside.accepted c.take.new.self) c.args.key (with_sent c.unwrap-id.result)
made c =
    let old : KeyedTable = keyed_of c.self.inside.accepted c.self.inside.live in
    let r = c.get.result.now in
    let facts = known old c.args.key r c.self.invariant c.get.ensures.request in
    let id = c.unwrap-id.result in
    rw c.take.ensures.table
    (change_is old c.args.self.now c.args.key (with_sent id) r (change_first (has_key c.args.key) (change_entry (with_sent id)) old.entries) c.self.view_is c.self.invariant c.get.ensures.request refl (rw c.take.ensures.table at c.take.ensures.keys)
    (step_sent (table_of old) r id facts.0 (sends old c.args.self.now c.args.key r c.self.view_is c.get.ensures.request c.requires) (sym c.id_for.ensures ∙ c.unwrap-id.ensures)))

pub invariant_of-self : goal.invariant_of-self
invariant_of-self c = (made c).laws

pub returns : goal.returns
returns c =
    let old : KeyedTable = keyed_of c.self.inside.accepted c.self.inside.live in
    let name = λ (t : KeyedTable) (q : LiveRequest). id_for t.limits (requests_of t.entries) q ≡ Some c.unwrap-id.result in
    record {
      id = seen name old c.args.self.now c.args.key c.get.result.now c.self.view_is c.get.ensures.request (sym c.id_for.ensures ∙ c.unwrap-id.ensures);
      state = (made c).state;
      table = (made c).table;
      laws = (made c).laws;
    }
