-- What a beat that is offered makes of a bridge, by what the client's port says of it.
use Rattle.std.proofs.Common.{◌≡◌, ℕ, ◌<◌, ◌^◌, Bool, true, false, List, Option, None, Some, Ok, Err, inl, inr, length, refl, sym, ◌∙◌, ap, subst, arith}
use Rattle.std.proofs.lemmas.List.{length-set, map-set}
use Rattle.std.proofs.lemmas.Option.{slice_get-map, slice_get_past, slice_get_within}
use Rattle.std.proofs.lemmas.Bool.{cases_eq, cases_lt, lt-leb}
use Rattle.std.specs.Prelude.{◌≢◌, IfSome, Result, if◌then◌else◌, nat_le, slice_get, slice_set, IsSomeAnd}
use Rattle.std.specs.Option.{option_flatten}
use Rattle.std.proofs.lemmas.Bool.Decides.{nat_tests}
use Rattle.bus_words.proofs.StoredPlaces.{get_set, get_set-other, set_back, set_twice}
use Rattle.tl_messages.specs.Requests.{HeldMessage}
use Rattle.tl_messages.specs.declared.ABeat.{ABeat}
use Rattle.tl_checker.specs.Ports.{PortState, joined, judged, judged_by, progress_of, opening_port, port_after}
use Rattle.tl_checker.specs.RequestRules.{TlPortLimits, first_fault}
use Rattle.tl_checker.specs.declared.Progress.{Progress}
use Rattle.tl_checker.specs.declared.Progress.TheVariants.{More, Whole}
use Rattle.tl_checker.specs.declared.TlRule.{TlRule}
use Rattle.tl_checker.proofs.BeatRules.{first_none}
use Rattle.axi_checker.specs.OpenBursts.{OpenBursts}
use Rattle.flight_table.specs.Tables.{has_room, is_busy, FlightTable}
use Rattle.bridge_core.specs.Bridge.{BridgeState, StockedBridge, completed, front_of, message_with, offered, offered_after, refuses_beat, verdict_on, with_front}
use Rattle.bridge_core.specs.Inside.{held_back, ArePorts, CanAccept, bridge_kept, no_place}
use Rattle.bridge_core.specs.Laws.{IsFreeFront, IsSoundBridge, IsSoundRequestTable}
use Rattle.bridge_core.specs.HeldRequests.{RequestTable, flight_table_of, newly_live, with_request}
use Rattle.bridge_core.specs.declared.Offered.{Offered}
use Rattle.bridge_core.specs.declared.Offered.TheVariants as offer
use Rattle.bridge_core.proofs.BridgeSteps.{state_in, free_accepted}
use Rattle.bridge_core.proofs.PortPlaces.{IsPort, are_ports_set, port_at}
use Rattle.bridge_core.proofs.SendingLinks.{linked_accepted}
use Rattle.config.specs.declared.Config.{Config}

-- ---- what is asked of the client's port

pub front_at : (ports : List PortState) (requests : RequestTable) (open_bursts : OpenBursts) (client : ℕ) (port : PortState) → slice_get ports client ≡ Some port
    → front_of (state_in ports requests open_bursts) client ≡ port.front
front_at ports requests open_bursts client port there = rw (slice_get-map (λ (p : PortState). p.front) ports client, there) refl

-- ---- the answer

pub offered_back : (state : BridgeState) (client : ℕ) (beat : ABeat) (verdict : Result Progress TlRule) (answer : Offered) → held_back state.requests client verdict ≡ Some answer
    → offered_after verdict state client beat ≡ (state, answer)
offered_back state client beat verdict answer held = grind arith

-- ---- a message goes on

no_fault : (fault : Option TlRule) (far progress : Progress) → judged_by fault far ≡ Ok progress → fault ≡ None
no_fault fault far progress judged_is = grind arith

-- a message with one more beat
pub joined_free : (table : RequestTable) (client : ℕ) (limits : TlPortLimits) (front : Option HeldMessage) (beat : ABeat) (busy : Bool) (progress : Progress) → limits.client ≡ client
    → IfSome front (IsFreeFront table client) → busy ≡ is_busy (flight_table_of table) client beat.source → judged limits front beat busy ≡ Ok progress
    → IsFreeFront table client (joined limits front beat)
joined_free table client limits None beat busy progress own free is judged_is =
    let none = no_fault (first_fault limits None beat busy) (progress_of (joined limits None beat)) progress judged_is in
    record { client = own; source = sym is ∙ (first_none limits beat busy none).1 }
joined_free table client limits (Some held) beat busy progress own free is judged_is = record { client = free.client; source = free.source }

-- ---- what is kept of the bridge

-- a client's front is another, and so is the table
sound_fronts : (fronts : List (Option HeldMessage)) (client : ℕ) (front : Option HeldMessage) (before after : RequestTable)
    → IfSome front (IsFreeFront after client) → ((of : ℕ) → of ≢ client → IfSome (option_flatten (slice_get fronts of)) (IsFreeFront before of) → IfSome (option_flatten (slice_get fronts of)) (IsFreeFront after of))
    → ((of : ℕ) → IfSome (option_flatten (slice_get fronts of)) (IsFreeFront before of))
    → (of : ℕ) → IfSome (option_flatten (slice_get (slice_set fronts client front) of)) (IsFreeFront after of)
sound_fronts fronts client front before after free others each of =
    elim (cases_eq of client) [
      | inl same ↦ rw same (elim (cases_lt client (length fronts)) [
        | inl there ↦ rw (get_set fronts client front there) free
        | inr past ↦ rw (slice_get_past (slice_set fronts client front) client (omega (arith, length-set fronts client front, past))) tt
      ])
      | inr other ↦ rw (get_set-other fronts client of front other) (others of other (each of))
    ]

pub sound_more : (state : BridgeState) (client : ℕ) (message : HeldMessage) → IsSoundBridge state → IsFreeFront state.requests client message → IsSoundBridge (with_front client (Some message) state)
sound_more state client message sound free =
    let fronts = length-set state.fronts client (Some message) ∙ sound.fronts in
    let each = sound_fronts state.fronts client (Some message) state.requests state.requests free (λ of other begun. begun) sound.free in
    assumption

pub sound_accepted : (state : BridgeState) (client : ℕ) (message : HeldMessage) → IsSoundBridge state → message.client ≡ client → IsSoundRequestTable (with_request message state.requests)
    → IsSoundBridge (record (with_front client None state) { requests = with_request message state.requests })
sound_accepted state client message sound own requests =
    let fronts = length-set state.fronts client None ∙ sound.fronts in
    let each = sound_fronts state.fronts client None state.requests (with_request message state.requests) tt
    (λ of other begun. free_accepted message state.requests of (option_flatten (slice_get state.fronts of)) (λ same. other (sym same ∙ own)) begun) sound.free in
    let linked = linked_accepted state.requests.live (newly_live state.requests message) state.open_bursts refl sound.linked in
    assumption

-- ---- a beat that is refused

abbrev Keeps : BridgeState → BridgeState × Offered → Type 0
Keeps state made = refuses_beat made.1 ≡ true → made.0 ≡ state

completed_kept : (state : BridgeState) (client : ℕ) (message : HeldMessage) → Keeps state (completed state client message)
completed_kept state client message = grind arith

after_kept : (verdict : Result Progress TlRule) (state : BridgeState) (client : ℕ) (beat : ABeat) → Keeps state (offered_after verdict state client beat)
after_kept (Err rule) state client beat = λ refused. refl
after_kept (Ok More) state client beat = λ refused. absurd (cc (refused))
after_kept (Ok Whole) state client beat = completed_kept state client (message_with state client beat)

offered_kept : (state : BridgeState) (client : ℕ) (beat : ABeat) → Keeps state (offered state client beat)
offered_kept state client beat = by_client (nat_le state.requests.config.clients client)
  where
    by_client : (b : Bool) → Keeps state (if b then (state, offer.NoClient) else offered_after (verdict_on state client beat) state client beat)
    by_client true = λ refused. refl
    by_client false = after_kept (verdict_on state client beat) state client beat

-- changes nothing
pub refused_kept : (old new : StockedBridge) (client : ℕ) (beat : ABeat) (answer : Offered) → answer ≡ (offered old.state client beat).1 → new ≡ record old { state = (offered old.state client beat).0 }
    → refuses_beat answer ≡ true → new ≡ old
refused_kept old new client beat answer same is refused = rw (offered_kept old.state client beat (sym (ap refuses_beat same) ∙ refused)) at is

-- ---- what the client's port says decides

abbrev with_answer : BridgeState → Offered → BridgeState × Offered
with_answer state answer = (state, answer)

-- a beat is offered by one of the clients of a bridge with these parts
pub record IsOffering (ports : List PortState) (requests : RequestTable) (open_bursts : OpenBursts) (client : ℕ) (beat : ABeat) (busy : Bool) (stock : ℕ) (old : StockedBridge) : Type 0 where
  pub sound : IsSoundBridge (state_in ports requests open_bursts)
  pub ports_are : ArePorts requests.config ports
  pub view : bridge_kept ports requests open_bursts stock ≡ old
  pub below : client < requests.config.clients
  pub busy_is : busy ≡ is_busy (flight_table_of requests) client beat.source

-- as the call makes it
pub offering : {ports : List PortState} {requests : RequestTable} {open_bursts : OpenBursts} {client : ℕ} {beat : ABeat} {busy : Bool} {stock : ℕ} {old : StockedBridge} {config : Config} {table : FlightTable}
    → IsSoundBridge (state_in ports requests open_bursts) → ArePorts requests.config ports → bridge_kept ports requests open_bursts stock ≡ old → config ≡ requests.config → client < config.clients
    → busy ≡ is_busy table client beat.source → table ≡ flight_table_of requests → IsOffering ports requests open_bursts client beat busy stock old
offering sound ports_are view same below busy_is is = grind arith

-- what it makes
pub record IsMade (requests : RequestTable) (open_bursts : OpenBursts) (client : ℕ) (beat : ABeat) (stock : ℕ) (old : StockedBridge) (new_ports : List PortState) (new_requests : RequestTable) (answer : Offered) : Type 0 where
  pub answers : answer ≡ (offered old.state client beat).1
  pub state : bridge_kept new_ports new_requests open_bursts stock ≡ record { state = (offered old.state client beat).0; stock = old.stock }
  pub sound : IsSoundBridge (state_in new_ports new_requests open_bursts)
  pub config : new_requests.config ≡ requests.config
  pub ports_are : ArePorts requests.config new_ports

-- a request can be accepted
abbrev HasPlace : RequestTable → ℕ → Type 0
HasPlace table client = (has_room (flight_table_of table) client ≡ true) × (table.accepted < 2 ^ 48)

has_place : (table : RequestTable) (client : ℕ) → no_place table client ≡ None → HasPlace table client
has_place table client none = grind (arith, nat_tests)

abbrev with_whole : PortState → HeldMessage → PortState
with_whole port message = record port { front = None; whole = Some message }

module _ {ports : List PortState} {requests : RequestTable} {open_bursts : OpenBursts} {client : ℕ} {beat : ABeat} {busy : Bool} {stock : ℕ} {old : StockedBridge} (o : IsOffering ports requests open_bursts client beat busy stock old) where
  abbrev Makes : List PortState → RequestTable → Offered → Type 0
  Makes new_ports new_requests answer = IsMade requests open_bursts client beat stock old new_ports new_requests answer

  -- the bridge, its client's port, and the message with the beat
  abbrev state : BridgeState
  state = state_in ports requests open_bursts

  abbrev place : IsPort requests.config ports client client
  place = port_at requests.config ports client o.ports_are o.below

  abbrev port : PortState
  port = place.port

  abbrev message : HeldMessage
  message = joined port.limits port.front beat

  pub is_empty : IsSomeAnd (slice_get ports client) (λ port. port.whole ≡ None)
  is_empty = rw place.there place.empty

  made : (new_ports : List PortState) (new_requests : RequestTable) (answer : Offered) → offered state client beat ≡ (state_in new_ports new_requests open_bursts, answer)
      → IsSoundBridge (state_in new_ports new_requests open_bursts) → new_requests.config ≡ requests.config → ArePorts requests.config new_ports → Makes new_ports new_requests answer
  made new_ports new_requests answer is sound config ports_are =
      record { answers = rw (← o.view, is) refl; state = rw (← o.view, is) refl; sound = sound; config = config; ports_are = ports_are }

  -- what the port says is the verdict
  after_verdict : (verdict : Result Progress TlRule) → verdict ≡ judged port.limits port.front beat busy → offered state client beat ≡ offered_after verdict state client beat
  after_verdict verdict is =
      rw (lt-leb requests.config.clients client o.below, front_at ports requests open_bursts client port place.there, ← o.busy_is, ← place.limits, ← is) refl

  -- it has to wait
  pub made_back : (answer : Offered) → IfSome (slice_get ports client) (λ port. Some answer ≡ held_back requests client (judged port.limits port.front beat busy)) → Makes ports requests answer
  made_back answer held =
      let verdict : Result Progress TlRule = judged port.limits port.front beat busy in
      let back : Some answer ≡ held_back requests client verdict = rw place.there at held in
      made ports requests answer (after_verdict verdict refl ∙ offered_back state client beat verdict answer (sym back)) o.sound refl o.ports_are

  -- it breaks a rule
  pub made_refused : (rule : TlRule) (new_ports : List PortState) → IfSome (slice_get ports client) (λ port. Err rule ≡ judged port.limits port.front beat busy)
      → IfSome (slice_get ports client) (λ port. new_ports ≡ slice_set ports client (port_after port beat (Err rule))) → Makes new_ports requests (offer.Refused rule)
  made_refused rule new_ports judged_is set_is =
      let same : new_ports ≡ ports = (rw place.there at set_is) ∙ set_back ports client port place.there in
      rw same (made ports requests (offer.Refused rule) (after_verdict (Err rule) (rw place.there at judged_is)) o.sound refl o.ports_are)

  -- a port with another front
  state_set : (new : PortState) (after : RequestTable) → state_in (slice_set ports client new) after open_bursts ≡ record (with_front client new.front state) { requests = after }
  state_set new after = rw (map-set (λ (p : PortState). p.front) ports client new) refl

  -- the message with the beat is still free
  free_message : (progress : Progress) → Ok progress ≡ judged port.limits port.front beat busy → IsFreeFront requests client message
  free_message progress is =
      let free : IfSome port.front (IsFreeFront requests client) = rw (front_at ports requests open_bursts client port place.there) at (o.sound.free client) in
      joined_free requests client port.limits port.front beat busy progress (ap (λ l. l.client) place.limits) free o.busy_is (sym is)

  -- more beats are to come
  pub made_more : (new_ports : List PortState) → IfSome (slice_get ports client) (λ port. Ok More ≡ judged port.limits port.front beat busy)
      → IfSome (slice_get ports client) (λ port. new_ports ≡ slice_set ports client (port_after port beat (Ok More))) → Makes new_ports requests offer.More
  made_more new_ports judged_is set_is =
      let new : PortState = record port { front = Some message } in
      let j : Ok More ≡ judged port.limits port.front beat busy = rw place.there at judged_is in
      let s : new_ports ≡ slice_set ports client new = rw place.there at set_is in
      let after = state_set new requests in
      rw s
      (made (slice_set ports client new) requests offer.More
      (after_verdict (Ok More) j ∙ rw (front_at ports requests open_bursts client port place.there, ← place.limits) (ap (λ (st : BridgeState). with_answer st offer.More) (sym after)))
      (subst IsSoundBridge (sym after) (sound_more state client message o.sound (free_message More j))) refl (are_ports_set requests.config ports client new o.ports_are place.limits place.empty))

  -- ---- it completes a request

  has_room_for : IfSome (slice_get ports client) (λ port. None ≡ held_back requests client (judged port.limits port.front beat busy)) → Ok Whole ≡ judged port.limits port.front beat busy → HasPlace requests client
  has_room_for held is =
      let none : None ≡ held_back requests client (judged port.limits port.front beat busy) = rw place.there at held in
      has_place requests client (ap (held_back requests client) is ∙ sym none)

  pub can_accept : (new_ports : List PortState) → IfSome (slice_get ports client) (λ port. None ≡ held_back requests client (judged port.limits port.front beat busy))
      → IfSome (slice_get ports client) (λ port. Ok Whole ≡ judged port.limits port.front beat busy) → IfSome (slice_get ports client) (λ port. new_ports ≡ slice_set ports client (port_after port beat (Ok Whole)))
      → IsSomeAnd (slice_get new_ports client) (CanAccept requests client)
  can_accept new_ports held judged_is set_is =
      let j : Ok Whole ≡ judged port.limits port.front beat busy = rw place.there at judged_is in
      let s : new_ports ≡ slice_set ports client (with_whole port message) = rw place.there at set_is in
      let room = has_room_for held j in
      rw (s, get_set ports client (with_whole port message) (slice_get_within ports client port place.there))
      (record { message = message; whole = refl; limits = place.limits; there = o.below; room = room.0; free = (free_message Whole j).source; number = room.1 })

  pub made_whole : (taken_ports new_ports : List PortState) (new_requests : RequestTable) (number : ℕ) → IfSome (slice_get ports client) (λ port. None ≡ held_back requests client (judged port.limits port.front beat busy))
      → IfSome (slice_get ports client) (λ port. Ok Whole ≡ judged port.limits port.front beat busy) → IfSome (slice_get ports client) (λ port. taken_ports ≡ slice_set ports client (port_after port beat (Ok Whole)))
      → number ≡ requests.accepted → IfSome (slice_get taken_ports client) (λ port. IfSome port.whole (λ message. new_requests ≡ with_request message requests))
      → IfSome (slice_get taken_ports client) (λ port. new_ports ≡ slice_set taken_ports client (opening_port port.limits)) → IsSoundRequestTable new_requests
      → Makes new_ports new_requests (offer.Accepted number)
  made_whole taken_ports new_ports new_requests number held judged_is set_is number_is table_is ports_is laws =
      let new : PortState = opening_port port.limits in
      let j : Ok Whole ≡ judged port.limits port.front beat busy = rw place.there at judged_is in
      let s : taken_ports ≡ slice_set ports client (with_whole port message) = rw place.there at set_is in
      let room = has_room_for held j in
      let there : slice_get taken_ports client ≡ Some (with_whole port message) = rw s (get_set ports client (with_whole port message) (slice_get_within ports client port place.there)) in
      let t : new_requests ≡ with_request message requests = rw there at table_is in
      let n : new_ports ≡ slice_set taken_ports client new = rw there at ports_is in
      let all : new_ports ≡ slice_set ports client new = n ∙ ap (λ (ps : List PortState). slice_set ps client new) s ∙ set_twice ports client (with_whole port message) new in
      let after = state_set new (with_request message requests) in
      let sound = sound_accepted state client message o.sound (free_message Whole j).client (subst IsSoundRequestTable t laws) in
      rw (all, t, number_is)
      (made (slice_set ports client new) (with_request message requests) (offer.Accepted requests.accepted)
      (after_verdict (Ok Whole) j
      ∙ rw (room.0, lt-leb (2 ^ 48) requests.accepted room.1, front_at ports requests open_bursts client port place.there, ← place.limits) (ap (λ (st : BridgeState). with_answer st (offer.Accepted requests.accepted)) (sym after)))
      (subst IsSoundBridge (sym after) sound) refl (are_ports_set requests.config ports client new o.ports_are place.limits refl))
