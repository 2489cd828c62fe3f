-- The bridge's state, and what each call makes of it (this project's profile).
use Rattle.std.specs.Prelude.{ℕ, ◌-◌, ◌*◌, ◌^◌, Bool, true, false, List, [], replicate, Option, Some, None, Result, Ok, Err, if◌then◌else◌, nat_le, slice_get, slice_set, option_map, sum_by}
use Rattle.std.specs.Option.{option_flatten}
use Rattle.tl_messages.specs.Requests.{HeldMessage}
use Rattle.tl_messages.specs.declared.ABeat.{ABeat}
use Rattle.axi_beats.specs.Bursts.{Burst}
use Rattle.axi_beats.specs.declared.BBeat.{BBeat}
use Rattle.axi_beats.specs.declared.RBeat.{RBeat}
use Rattle.tl_checker.specs.Ports.{joined, judged}
use Rattle.tl_checker.specs.declared.Progress.{Progress}
use Rattle.tl_checker.specs.declared.Progress.TheVariants.{More, Whole}
use Rattle.tl_checker.specs.declared.TlRule.{TlRule}
use Rattle.axi_checker.specs.OpenBursts.{OpenBursts, nothing_open, open_after}
use Rattle.axi_checker.specs.declared.AxiBeat.TheVariants.{B as OnB, R as OnR}
use Rattle.axi_checker.specs.Rules.{axi_fault, open_with_burst}
use Rattle.axi_checker.specs.declared.AxiRule.{AxiRule}
use Rattle.burst_plan.specs.declared.Region.{Region}
use Rattle.flight_table.specs.Tables.{has_room, is_busy}
use Rattle.flight_table.specs.Tables as flights
use Rattle.flight_table.specs.Work as flight_work
use Rattle.config.specs.Configs.{axi_port_of, port_of}
use Rattle.bridge_core.specs.HeldRequests.{BridgedRequest, RequestTable, oldest_done, flight_table_of, with_read, with_request, with_response, with_sent_burst, without_done}
use Rattle.bridge_core.specs.Sending.{Sending, next_sending}
use Rattle.config.specs.declared.Config.{Config}
use Rattle.bridge_core.specs.declared.Offered.{Offered}
use Rattle.bridge_core.specs.declared.Offered.TheVariants as offer
use Rattle.bridge_core.specs.declared.Taken.{Taken}
use Rattle.bridge_core.specs.declared.Taken.TheVariants as take

-- what has come of each client's message, the live requests, and the bursts that are outstanding on the AXI4 port
pub record BridgeState : Type 0 where
  pub fronts : List (Option HeldMessage)
  pub requests : RequestTable
  pub open_bursts : OpenBursts

-- a bridge: its state, and how many boxes stand in stock
pub record StockedBridge : Type 0 where
  pub state : BridgeState
  pub stock : ℕ

abbrev pub opening_requests : Config → List Region → RequestTable
opening_requests config regions = record { config = config; regions = regions; accepted = 0; live = [] }

abbrev pub opening_state : Config → List Region → BridgeState
opening_state config regions =
    record { fronts = replicate config.clients None; requests = opening_requests config regions; open_bursts = nothing_open }

-- how many boxes there are: one for each burst that may be outstanding on a side
abbrev pub boxes_of : Config → ℕ
boxes_of config = config.ids * config.depth

abbrev pub opening_bridge : Config → List Region → StockedBridge
opening_bridge config regions = record { state = opening_state config regions; stock = boxes_of config }

-- ---- offer

-- what has come of a client's message
abbrev pub front_of : BridgeState → ℕ → Option HeldMessage
front_of state client = option_flatten (slice_get state.fronts client)

abbrev pub with_front : ℕ → Option HeldMessage → BridgeState → BridgeState
with_front client front state = record state { fronts = slice_set state.fronts client front }

-- the message that a client would hold with this beat
abbrev pub message_with : BridgeState → ℕ → ABeat → HeldMessage
message_with state client beat = joined (port_of state.requests.config client) (front_of state client) beat

-- what the checker of the client's port says of a beat: the first rule that it breaks, or how far the message is with it
abbrev pub verdict_on : BridgeState → ℕ → ABeat → Result Progress TlRule
verdict_on state client beat =
    judged (port_of state.requests.config client) (front_of state client) beat (is_busy (flight_table_of state.requests) client beat.source)

-- a message that a beat would make whole: it has to wait where its client has as many live requests as it may have; after 2^48 requests no
-- further one is accepted; else it is, under the next number
abbrev pub completed : BridgeState → ℕ → HeldMessage → BridgeState × Offered
completed state client message =
    if has_room (flight_table_of state.requests) client
    then
    (if nat_le (2 ^ 48) state.requests.accepted
    then (state, offer.Exhausted)
    else (record (with_front client None state) { requests = with_request message state.requests }, offer.Accepted state.requests.accepted))
    else (state, offer.NotReady)

abbrev pub offered_after : Result Progress TlRule → BridgeState → ℕ → ABeat → BridgeState × Offered
offered_after (Err rule) state client beat = (state, offer.Refused rule)
offered_after (Ok More) state client beat = (with_front client (Some (message_with state client beat)) state, offer.More)
offered_after (Ok Whole) state client beat = completed state client (message_with state client beat)

-- what a beat makes of the state, and the answer
abbrev pub offered : BridgeState → ℕ → ABeat → BridgeState × Offered
offered state client beat =
    if nat_le state.requests.config.clients client then (state, offer.NoClient) else offered_after (verdict_on state client beat) state client beat

-- whether an answer refuses its beat
abbrev pub refuses_beat : Offered → Bool
refuses_beat offer.NoClient = true
refuses_beat (offer.Refused rule) = true
refuses_beat offer.NotReady = true
refuses_beat offer.Exhausted = true
refuses_beat offer.More = false
refuses_beat (offer.Accepted number) = false

-- ---- pump

-- the burst that goes next, if a request is ready
abbrev pub burst_to_send : BridgeState → Option Burst
burst_to_send state = option_map (λ sending. sending.burst) (next_sending state.requests)

abbrev pub after_sent : BridgeState → Sending → BridgeState
after_sent state sending =
    record state {
      requests = with_sent_burst sending.request.flight.number sending.id state.requests;
      open_bursts = open_with_burst state.open_bursts sending.burst;
    }

-- the state after it went
abbrev pub after_pump_of : BridgeState → Option Sending → BridgeState
after_pump_of state None = state
after_pump_of state (Some sending) = after_sent state sending

abbrev pub after_pump : BridgeState → BridgeState
after_pump state = after_pump_of state (next_sending state.requests)

-- ---- answers

-- the rule that an answer of the memory breaks, or none
abbrev pub b_fault : BridgeState → BBeat → Option AxiRule
b_fault state b = axi_fault (axi_port_of state.requests.config) state.open_bursts (OnB b)

abbrev pub r_fault : BridgeState → RBeat → Option AxiRule
r_fault state r = axi_fault (axi_port_of state.requests.config) state.open_bursts (OnR r)

-- the state after an answer that breaks none: it belongs to the request that holds its ID
abbrev pub after_b_beat : BridgeState → BBeat → BridgeState
after_b_beat state b =
    record state { requests = with_response b.id b.resp state.requests; open_bursts = open_after state.open_bursts (OnB b) }

abbrev pub after_r_beat : BridgeState → RBeat → BridgeState
after_r_beat state r = record state { requests = with_read r state.requests; open_bursts = open_after state.open_bursts (OnR r) }

-- ---- replies

-- the request whose reply a client may take, if there is such a client
abbrev pub reply_taken : BridgeState → ℕ → Option BridgedRequest
reply_taken state client = if nat_le state.requests.config.clients client then None else oldest_done state.requests.live client

-- the answer to a client that asks for a reply
abbrev pub taken_of : Option BridgedRequest → Taken
taken_of None = take.Nothing
taken_of (Some request) = take.Reply request.flight.number

abbrev pub taken : BridgeState → ℕ → Taken
taken state client =
    if nat_le state.requests.config.clients client then take.NoClient else taken_of (oldest_done state.requests.live client)

-- the state after its reply left
abbrev pub after_take : BridgeState → ℕ → BridgeState
after_take state client = record state { requests = without_done client state.requests }

-- ---- counts

-- how many requests are accepted and not done
abbrev pub in_flight : BridgeState → ℕ
in_flight state = flights.in_flight (flight_table_of state.requests)

-- how many read beats came of bursts that are outstanding
abbrev pub answered_reads : OpenBursts → ℕ
answered_reads open_bursts = sum_by (λ read. read.came) open_bursts.reads

-- the work as the bridge sees it: the table counts no beat of an outstanding burst as performed or answered, and a read beat that came was both
abbrev pub work_left : BridgeState → ℕ
work_left state = flight_work.work (flight_table_of state.requests) - 2 * answered_reads state.open_bursts
