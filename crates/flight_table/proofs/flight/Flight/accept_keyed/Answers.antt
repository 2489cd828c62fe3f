use Rattle.std.proofs.Common.{ap, ◌+◌, [], ◌∷◌, ◌++◌, refl}
use Rattle.flight_table.specs.Inside.{keyed_of}
use Rattle.flight_table.specs.LiveRequests.{LiveRequest, plan_for}
use Rattle.flight_table.specs.Laws.{IsSound}
use Rattle.flight_table.specs.Tables.{KeyedTable}
use Rattle.flight_table.proofs.NewRequests.{accepted_laws, is_latest, known_client, none_planned, quota_left, room_left}
use Rattle.flight_table.proofs.flight.Flight.accept_keyed.Goals as goal

pub add-key-requires-clause-room : goal.add-key-requires-clause-room
add-key-requires-clause-room c =
    let old : KeyedTable = keyed_of c.self.inside.accepted c.self.inside.live in
    room_left old c.args.self.now c.args.client c.args.request.now c.args.plan c.self.view_is c.self.invariant (record { there = c.requires.client; room = c.requires.room; free = c.requires.source })

pub add-key-requires-clause-client : goal.add-key-requires-clause-client
add-key-requires-clause-client c = rw c.accepted.ensures (known_client (keyed_of c.self.inside.accepted c.self.inside.live) c.args.self.now c.args.client c.self.view_is c.self.invariant c.requires.client)

pub add-key-requires-clause-quota : goal.add-key-requires-clause-quota
add-key-requires-clause-quota c =
    rw c.accepted.ensures
    (quota_left (keyed_of c.self.inside.accepted c.self.inside.live) c.args.self.now c.args.client c.args.request.now.source c.self.view_is c.self.invariant
    (record { there = c.requires.client; room = c.requires.room; free = c.requires.source }))

pub add-key-requires-clause-latest : goal.add-key-requires-clause-latest
add-key-requires-clause-latest c = rw c.accepted.ensures (is_latest (keyed_of c.self.inside.accepted c.self.inside.live) c.self.invariant)

pub add-key-requires-clause-no_id : goal.add-key-requires-clause-no_id
add-key-requires-clause-no_id c = ap (λ (q : LiveRequest). q.id) c.accepted.ensures

pub add-key-requires-clause-sends : goal.add-key-requires-clause-sends
add-key-requires-clause-sends c = rw c.accepted.ensures (none_planned (plan_for c.args.request.now.operation c.args.plan))

sound : (c : goal.After-self-1) → IsSound (keyed_of (c.self.inside.accepted + 1) c.add-key.new.self)
sound c =
    let old : KeyedTable = keyed_of c.self.inside.accepted c.self.inside.live in
    rw c.add-key.ensures.table
    (accepted_laws old c.args.self.now c.args.client c.add-key.result c.args.request.now c.args.plan c.accepted.result (old.entries ++ record { key = c.add-key.result; request = c.accepted.result } ∷ []) c.self.view_is c.self.invariant
    (record { there = c.requires.client; room = c.requires.room; free = c.requires.source }) c.accepted.ensures refl (rw c.add-key.ensures.table at c.add-key.ensures.keys))

pub invariant_of-self : goal.invariant_of-self
invariant_of-self c = sound c

pub returns-clause-laws : goal.returns-clause-laws
returns-clause-laws c = sound c
