-- A request that is accepted joins the table.
use Rattle.std.proofs.Common.{◌≡◌, true, false, Option, set, refl, sym, ◌∙◌, ap, subst}
use Rattle.std.specs.Prelude.{IfSome, Some}
use Rattle.std.specs.Option.{option_copied}
use Rattle.tl_messages.specs.Requests.{HeldMessage, request_of}
use Rattle.tl_checker.specs.RequestRules.{TlPortLimits}
use Rattle.tl_checker.specs.Sound as checker
use Rattle.flight_table.specs.Tables.{FlightTable, has_room, is_busy, table_of}
use Rattle.responses.specs.Gathered.{gathering_of, outline_of}
use Rattle.config.specs.Configs.{port_of}
use Rattle.bridge_core.specs.Inside.{kept_table}
use Rattle.bridge_core.specs.HeldRequests.{RequestTable, flight_table_of}
use Rattle.bridge_core.specs.HeldRequests as requests
use Rattle.bridge_core.proofs.JoinedRequests.{IsJoined, joins, none_told}
use Rattle.bridge_core.proofs.TableSteps.{held_at, table_seen}
use Rattle.bridge_core.proofs.request_table.RequestTable.accept.Goals as goal

of_port : (limits : TlPortLimits) (whole : Option HeldMessage) (message : HeldMessage) → whole ≡ Some message → IfSome whole (checker.IsSound limits) → checker.IsSound limits message
of_port limits whole message is sound = rw is at sound

pub accept_keyed-number-requires-clause-room : goal.accept_keyed-number-requires-clause-room
accept_keyed-number-requires-clause-room c =
    let i = c.self.inside in
    let message = c.unwrap-request.result.now in
    let whole : c.args.port.now.whole ≡ Some message = sym c.whole.ensures.request ∙ ap option_copied c.unwrap-request.ensures in
    let client : c.client.result ≡ c.args.port.now.limits.client = c.client.ensures ∙ (of_port c.args.port.now.limits c.args.port.now.whole message whole c.whole.ensures.sound).client in
    let seen : table_of i.flight ≡ flight_table_of c.args.self.now = table_seen (kept_table i.config i.map i.flight i.held.items) c.self.invariant.1 ∙ ap flight_table_of c.self.view_is in
    subst (λ (t : FlightTable). has_room t c.client.result ≡ true) (sym seen) (subst (λ n. has_room (flight_table_of c.args.self.now) n ≡ true) (sym client) c.requires.room)

pub accept_keyed-number-requires-clause-source : goal.accept_keyed-number-requires-clause-source
accept_keyed-number-requires-clause-source c =
    let i = c.self.inside in
    let message = c.unwrap-request.result.now in
    let whole : c.args.port.now.whole ≡ Some message = sym c.whole.ensures.request ∙ ap option_copied c.unwrap-request.ensures in
    let client : c.client.result ≡ c.args.port.now.limits.client = c.client.ensures ∙ (of_port c.args.port.now.limits c.args.port.now.whole message whole c.whole.ensures.sound).client in
    let seen : table_of i.flight ≡ flight_table_of c.args.self.now = table_seen (kept_table i.config i.map i.flight i.held.items) c.self.invariant.1 ∙ ap flight_table_of c.self.view_is in
    let free : is_busy (flight_table_of c.args.self.now) c.args.port.now.limits.client message.source ≡ false = rw whole at c.requires.source in
    subst (λ (t : FlightTable). is_busy t c.client.result message.source ≡ false) (sym seen) (subst (λ n. is_busy (flight_table_of c.args.self.now) n message.source ≡ false) (sym client) free)

joined : (c : goal.After-self-1) → IsJoined (kept_table c.self.inside.config c.self.inside.map c.self.inside.flight c.self.inside.held.items)
    (kept_table c.self.inside.config c.self.inside.map c.accept_keyed-number.new.self (set c.self.inside.held.items c.slot.result c.begin.new.self)) c.unwrap-request.result.now
joined c =
    let i = c.self.inside in
    let message = c.unwrap-request.result.now in
    let old = kept_table i.config i.map i.flight i.held.items in
    let whole : c.args.port.now.whole ≡ Some message = sym c.whole.ensures.request ∙ ap option_copied c.unwrap-request.ensures in
    let sound = of_port c.args.port.now.limits c.args.port.now.whole message whole c.whole.ensures.sound in
    let limits : c.args.port.now.limits ≡ port_of i.config message.client =
    c.requires.limits ∙ ap (λ (t : RequestTable). port_of t.config c.args.port.now.limits.client) (sym c.self.view_is) ∙ ap (λ n. port_of i.config n) (sym sound.client) in
    let room = held_at old c.slot.result c.slot.result c.index_mut.result.now c.self.invariant.1 refl c.slot.ensures.within c.index_mut.ensures.value in
    let begun : c.begin.new.self ≡ record { message = message; bus_bytes = c.index_mut.result.now.bus_bytes; gathering = gathering_of (outline_of (request_of message)) c.is_none.result } = rw whole at c.begin.ensures.held in
    joins old c.accept_keyed-number.new.self c.slot.result c.begin.new.self message c.range_of-range.result c.self.invariant.1 c.self.invariant.0
    (record {
      few = c.slot.ensures.within;
      fresh = rw c.slot.ensures.value c.accept_keyed-number.ensures.fresh;
      range_is = c.range_of-range.ensures.range;
      state = c.accept_keyed-number.ensures.state
          ∙ rw (c.slot.ensures.value, c.client.ensures) refl;
      laws = c.accept_keyed-number.ensures.laws;
      pages = c.range_of-range.ensures.map;
      of_port = subst (λ l. checker.IsSound l message) limits sound;
      held_is = begun ∙ rw (room, none_told c.range_of-range.result c.is_none.result c.is_none.ensures) refl;
    })

pub invariant_of-self : goal.invariant_of-self
invariant_of-self c = ((joined c).sound, (joined c).kept)

pub returns-clause-table : goal.returns-clause-table
returns-clause-table c =
    let whole : c.args.port.now.whole ≡ Some c.unwrap-request.result.now = sym c.whole.ensures.request ∙ ap option_copied c.unwrap-request.ensures in
    rw whole ((joined c).table ∙ ap (λ (t : RequestTable). requests.with_request c.unwrap-request.result.now t) c.self.view_is)

pub returns-clause-laws : goal.returns-clause-laws
returns-clause-laws c = (joined c).sound
