-- What is kept of a bridge by a burst that goes, an answer that comes, and a reply that is taken; and that a message which has begun has the
-- source of no live request of its client, whatever is done with the live requests.
use Rattle.std.proofs.Common.{◌≡◌, ℕ, Bool, false, List, [], ◌∷◌, ◌++◌, Option, Some, None, refl, ◌∙◌, arith, ◌-◌, ◌≤◌, true, map, Ok, Err, ap, sym, subst}
use Rattle.std.proofs.lemmas.Bool.{ne_eqb}
use Rattle.std.specs.Prelude.{◌≢◌, IfSome, IsSomeAnd, MatchOption, Result, ⊤}
use Rattle.std.specs.List.{list_any}
use Rattle.bus_words.specs.Places.{change_first, without_first}
use Rattle.tl_messages.specs.Requests.{HeldMessage}
use Rattle.axi_beats.specs.declared.RBeat.{RBeat}
use Rattle.axi_beats.specs.declared.Resp.{Resp}
use Rattle.flight_table.specs.Tables.{has_source, is_busy}
use Rattle.bridge_core.specs.Laws.{IsFreeFront, AreLinked, IsSoundBridge, IsSoundRequestTable, came_of_next}
use Rattle.bridge_core.specs.HeldRequests.{BridgedRequest, RequestTable, after_read, after_response, flight_table_of, flights_of, is_done_for, newly_live, with_read, with_request, with_response, with_sent_burst, without_done, holder}
use Rattle.axi_beats.specs.declared.BBeat.{BBeat}
use Rattle.axi_checker.specs.OpenBursts.{OpenBursts, write_to_fill}
use Rattle.axi_checker.specs.declared.AxiBeat.{AxiBeat}
use Rattle.axi_checker.specs.Rules.{AxiPortLimits, axi_fault, open_with_burst}
use Rattle.axi_checker.specs.Monitors.{MonitorState}
use Rattle.axi_beats.specs.Bursts.{Burst}
use Rattle.tl_checker.specs.Ports.{PortState}
use Rattle.axi_checker.specs.declared.AxiRule.{AxiRule}
use Rattle.bridge_core.specs.Bridge.{BridgeState, StockedBridge, after_b_beat, after_pump, after_r_beat, after_sent, after_take, b_fault, boxes_of, front_of, r_fault}
use Rattle.config.specs.Configs.{axi_port_of}
use Rattle.bridge_core.specs.Inside.{ArePorts, AwaitsAnswer, AwaitsBeat, bridge_kept}
use Rattle.bridge_core.specs.Sending.{Sending, next_sending}
use Rattle.config.specs.declared.Config.{Config}
use Rattle.bridge_core.proofs.AnswerLinks.{finds_reader, finds_writer}
use Rattle.bridge_core.proofs.ReadLinks.{linked_read}
use Rattle.bridge_core.proofs.ResponseLinks.{filled_response, linked_response}
use Rattle.bridge_core.proofs.SendingLinks.{linked_taken}
use Rattle.bridge_core.proofs.SentLinks.{linked_sent}

-- ---- a message that has begun

-- the requests that have a source
abbrev AnyHas : ℕ → ℕ → List BridgedRequest → Bool
AnyHas client source live = list_any (has_source client source) (flights_of live)

any_changed : (client source : ℕ) (p : BridgedRequest → Bool) (f : BridgedRequest → BridgedRequest) (live : List BridgedRequest)
    → ((r : BridgedRequest) → has_source client source (f r).flight ≡ has_source client source r.flight) → AnyHas client source (change_first p f live) ≡ AnyHas client source live
any_changed client source p f [] same = refl
any_changed client source p f (r ∷ live) same = grind (arith, same r, any_changed client source p f live same)

any_left : (client source : ℕ) (p : BridgedRequest → Bool) (live : List BridgedRequest) → AnyHas client source live ≡ false → AnyHas client source (without_first p live) ≡ false
any_left client source p [] none = none
any_left client source p (r ∷ live) none = grind (arith, any_left client source p live)

any_more : (client source : ℕ) (live : List BridgedRequest) (new : BridgedRequest) → AnyHas client source live ≡ false → has_source client source new.flight ≡ false → AnyHas client source (live ++ new ∷ []) ≡ false
any_more client source [] new none other = rw other refl
any_more client source (r ∷ live) new none other = grind (arith, any_more client source live new)

-- a front in a table, after a change of the table
abbrev pub StaysFree : RequestTable → RequestTable → Type 0
StaysFree before after = (client : ℕ) (front : Option HeldMessage) → IfSome front (IsFreeFront before client) → IfSome front (IsFreeFront after client)

same_free : (before after : RequestTable) → ((client source : ℕ) → is_busy (flight_table_of before) client source ≡ false → is_busy (flight_table_of after) client source ≡ false) → StaysFree before after
same_free before after same client None free = free
same_free before after same client (Some message) free = record { client = free.client; source = same client message.source free.source }

pub free_sent : (number id : ℕ) (table : RequestTable) → StaysFree table (with_sent_burst number id table)
free_sent number id table = same_free table (with_sent_burst number id table) (λ client source none. any_changed client source _ _ table.live (λ r. refl) ∙ none)

pub free_response : (id : ℕ) (resp : Resp) (table : RequestTable) → StaysFree table (with_response id resp table)
free_response id resp table =
    same_free table (with_response id resp table) (λ client source none. any_changed client source _ (after_response resp) table.live (λ r. grind arith) ∙ none)

pub free_read : (r : RBeat) (table : RequestTable) → StaysFree table (with_read r table)
free_read r table =
    same_free table (with_read r table)
    (λ client source none. any_changed client source _ (after_read table.config.axi_bytes r) table.live (λ request. grind arith) ∙ none)

pub free_taken : (client : ℕ) (table : RequestTable) → StaysFree table (without_done client table)
free_taken client table = same_free table (without_done client table) (λ of source none. any_left of source (is_done_for client) table.live none)

-- the message of another client is accepted
pub free_accepted : (message : HeldMessage) (table : RequestTable) (client : ℕ) (front : Option HeldMessage) → message.client ≢ client → IfSome front (IsFreeFront table client) → IfSome front (IsFreeFront (with_request message table) client)
free_accepted message table client None other free = free
free_accepted message table client (Some begun) other free =
    record {
      client = free.client;
      source = any_more client begun.source table.live (newly_live table message) free.source (rw (ne_eqb message.client client other) refl);
    }

-- ---- the whole bridge

-- the state of a bridge with these ports
abbrev pub state_in : List PortState → RequestTable → OpenBursts → BridgeState
state_in ports requests open_bursts = record { fronts = map (λ (port : PortState). port.front) ports; requests = requests; open_bursts = open_bursts }

-- with other live requests and other outstanding bursts
sound_after : {state : BridgeState} {after : RequestTable} {open_bursts : OpenBursts} → IsSoundBridge state → IsSoundRequestTable after → after.config ≡ state.requests.config → StaysFree state.requests after → AreLinked after.live open_bursts
    → write_to_fill open_bursts ≡ None → IsSoundBridge (record state { requests = after; open_bursts = open_bursts })
sound_after {state = state} sound requests same free linked filled =
    record {
      requests = requests;
      fronts = sound.fronts ∙ ap (λ (config : Config). config.clients) (sym same);
      free = λ client. free client (front_of state client) (sound.free client);
      linked = linked;
      filled = filled;
    }

pub sound_sent : (state : BridgeState) (sending : Sending) → IsSoundBridge state → next_sending state.requests ≡ Some sending → IsSoundRequestTable (after_sent state sending).requests
    → write_to_fill (after_sent state sending).open_bursts ≡ None → IsSoundBridge (after_sent state sending)
sound_sent state sending sound is requests filled = sound_after sound requests refl (free_sent sending.request.flight.number sending.id state.requests) (linked_sent state sending sound is) filled

-- the parts of a bridge: with the memory's port, and the boxes that stand in stock and those for which there is room
abbrev pub IsBridge : List PortState → RequestTable → MonitorState → ℕ → ℕ → Type 0
IsBridge ports requests monitor stock room =
    IsSoundBridge (state_in ports requests monitor.open_bursts) × ArePorts requests.config ports × (monitor.port ≡ axi_port_of requests.config) × (stock ≤ boxes_of requests.config) × (boxes_of requests.config ≤ room)

abbrev pub monitor_with : MonitorState → Burst → MonitorState
monitor_with monitor burst = record monitor { open_bursts = open_with_burst monitor.open_bursts burst }

pub pumped : (ports : List PortState) (requests new_requests : RequestTable) (monitor new_monitor : MonitorState) (stock room new_stock new_room : ℕ) (sending : Sending) → IsBridge ports requests monitor stock room
    → next_sending requests ≡ Some sending → new_requests ≡ with_sent_burst sending.request.flight.number sending.id requests → new_monitor ≡ monitor_with monitor sending.burst → IsSoundRequestTable new_requests
    → write_to_fill new_monitor.open_bursts ≡ None → new_stock ≤ stock → room ≤ new_room → IsBridge ports new_requests new_monitor new_stock new_room
pumped ports requests new_requests monitor new_monitor stock room new_stock new_room sending i is table sent laws ready less more =
    let filled = subst (λ (m : MonitorState). write_to_fill m.open_bursts ≡ None) sent ready in
    let sound : IsSoundBridge (after_sent (state_in ports requests monitor.open_bursts) sending) = sound_sent (state_in ports requests monitor.open_bursts) sending i.0 is (subst IsSoundRequestTable table laws) filled in
    rw (table, sent) (sound, i.1, i.2, omega (arith, i.3, less), omega (arith, i.4, more))

pub pumped_state : (ports : List PortState) (requests new_requests : RequestTable) (monitor new_monitor : MonitorState) (stock new_stock : ℕ) (sending : Sending) (old : StockedBridge)
    → bridge_kept ports requests monitor.open_bursts stock ≡ old → next_sending requests ≡ Some sending → new_requests ≡ with_sent_burst sending.request.flight.number sending.id requests
    → new_monitor ≡ monitor_with monitor sending.burst → new_stock ≡ stock - 1 → bridge_kept ports new_requests new_monitor.open_bursts new_stock ≡ record { state = after_pump old.state; stock = old.stock - 1 }
pumped_state ports requests new_requests monitor new_monitor stock new_stock sending old view is table sent less = grind (arith, view, is, table, sent, less)

pub sound_response : (state : BridgeState) (b : BBeat) → IsSoundBridge state → b_fault state b ≡ None → IsSoundRequestTable (with_response b.id b.resp state.requests) → IsSoundBridge (after_b_beat state b)
sound_response state b sound none requests = sound_after sound requests refl (free_response b.id b.resp state.requests) (linked_response state b sound none) (filled_response state b sound)

pub sound_read : (state : BridgeState) (r : RBeat) → IsSoundBridge state → r_fault state r ≡ None → IsSoundRequestTable (with_read r state.requests) → IsSoundBridge (after_r_beat state r)
sound_read state r sound none requests = sound_after sound requests refl (free_read r state.requests) (linked_read state r sound none) sound.filled

pub sound_taken : (state : BridgeState) (client : ℕ) → IsSoundBridge state → IsSoundRequestTable (without_done client state.requests) → IsSoundBridge (after_take state client)
sound_taken state client sound requests = sound_after sound requests refl (free_taken client state.requests) (linked_taken client state.requests state.open_bursts sound.requests sound.linked) sound.filled

-- an answer that the monitor took breaks no rule, and belongs to the request that holds its ID
abbrev Answers : Option AxiRule → ⊤ → Type 0
Answers fault taken = MatchOption fault (◌≡◌ {A = Result ⊤ AxiRule} (Ok taken) (Ok tt)) (λ rule. ◌≡◌ {A = Result ⊤ AxiRule} (Ok taken) (Err rule))

no_fault : (fault : Option AxiRule) (taken : ⊤) → Answers fault taken → fault ≡ None
no_fault fault taken is = grind arith

pub unbroken : (state : BridgeState) (port : AxiPortLimits) (beat : AxiBeat) (taken : ⊤) → port ≡ axi_port_of state.requests.config → Answers (axi_fault port state.open_bursts beat) taken
    → axi_fault (axi_port_of state.requests.config) state.open_bursts beat ≡ None
unbroken state port beat taken same is = ap (λ (p : AxiPortLimits). axi_fault p state.open_bursts beat) (sym same) ∙ no_fault (axi_fault port state.open_bursts beat) taken is

pub awaits_b : (state : BridgeState) (b : BBeat) → IsSoundBridge state → b_fault state b ≡ None → IsSomeAnd (holder b.id state.requests.live) (AwaitsAnswer true)
awaits_b state b sound none =
    let found = finds_writer state b sound none in
    rw found.holder.held (record { side = found.writes; piece = found.piece; live = found.holder.live; unanswered = found.next.within; next = found.next.at })

pub awaits_r : (state : BridgeState) (r : RBeat) → IsSoundBridge state → r_fault state r ≡ None → IsSomeAnd (holder r.id state.requests.live) (AwaitsBeat state.requests.config.axi_bytes r)
awaits_r state r sound none =
    let found = finds_reader state r sound none in
    let reader = found.reader in
    rw reader.holder.held (
    record {
      awaits = record { side = reader.reads; piece = found.piece; live = reader.holder.live; unanswered = reader.next.within; next = reader.next.at };
      beats = came_of_next found.request;
      came = omega (arith, reader.holder.served.came);
      within = reader.few;
      last = reader.last;
      place = reader.place;
    }
    )
