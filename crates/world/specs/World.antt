-- The world: a bridge and a free memory, and what each event makes of them. It knows each part by what its calls make of its state; how one
-- stays in step with the other is told in Laws, and what a run of events shows in the crate world_run.
use Rattle.std.specs.Prelude.{ℕ, ◌+◌, ◌≡◌, Bool, true, false, List, [], ◌∷◌, ◌++◌, map, zero, suc, Option, Some, None, is_some, if◌then◌else◌, nat_le}
use Rattle.tl_messages.specs.declared.DBeat.{DBeat}
use Rattle.axi_beats.specs.Bursts.{Burst}
use Rattle.axi_beats.specs.declared.BBeat.{BBeat}
use Rattle.axi_beats.specs.declared.RBeat.{RBeat}
use Rattle.flight_table.specs.Work.{unsent}
use Rattle.bridge_core.specs.Bridge as bridges
use Rattle.bridge_core.specs.Bridge.{BridgeState, opening_state, offered, burst_to_send, after_pump, after_b_beat, after_r_beat, after_take, reply_taken}
use Rattle.bridge_core.specs.HeldRequests.{BridgedRequest, flight_table_of, reply_beats}
use Rattle.bridge_core.specs.declared.Offered.{Offered}
use Rattle.bridge_core.specs.declared.Offered.TheVariants as offer
use Rattle.subordinate.specs.FreeMemory.{FreeMemory, opening, with_burst, performed, b_of, r_of, after_b_of, after_r_of, waiting_beats, ids_with_b, ids_with_r, work_open}
use Rattle.subordinate.specs.Pages.{byte_at_address}
use Rattle.subordinate.specs.declared.Performed.{Performed}
use Rattle.subordinate.specs.declared.Performed.TheVariants as perform
use Rattle.setups.specs.Setups.{SetupLists}
use Rattle.world.specs.declared.Answer.{Answer}
use Rattle.world.specs.declared.Answer.TheVariants.{More, Accepted, NotReady, Exhausted, Refused, NoClient, Sent, Idle, Done, NoSuch, Already, B, R, Nothing, Reply}
use Rattle.world.specs.declared.Step.{Step}
use Rattle.world.specs.declared.Step.TheVariants.{Offer, Pump, Perform, AnswerB, AnswerR, Take}

-- the world's state; `last_sent` is the burst that the last event sent, where the last event that changed the world was a Pump
pub record WorldState : Type 0 where
  pub bridge : BridgeState
  pub memory : FreeMemory
  pub last_sent : Option Burst

abbrev pub opening_world : SetupLists → WorldState
opening_world setup =
    record {
      bridge = opening_state setup.config setup.regions;
      memory = opening setup.config.axi_bytes setup.pages setup.bad_words;
      last_sent = None;
    }

-- what an event gives: the next state, the answer, the burst that was sent and the beats of the reply that was handed out, if any
pub record Outcome : Type 0 where
  pub state : WorldState
  pub answer : Answer
  pub burst : Option Burst
  pub reply : List DBeat

-- an event that only answers
abbrev pub unchanged : WorldState → Answer → Outcome
unchanged state answer = record { state = state; answer = answer; burst = None; reply = [] }

-- an event that changes the bridge, the memory or both
abbrev pub changed : BridgeState → FreeMemory → Answer → Outcome
changed bridge memory answer =
    record { state = record { bridge = bridge; memory = memory; last_sent = None }; answer = answer; burst = None; reply = [] }

-- an offer: refused, or taken by the bridge
abbrev pub offered_to : WorldState → BridgeState × Offered → Outcome
offered_to state (bridge, offer.NoClient) = unchanged state NoClient
offered_to state (bridge, offer.Refused rule) = unchanged state (Refused rule)
offered_to state (bridge, offer.NotReady) = unchanged state NotReady
offered_to state (bridge, offer.Exhausted) = unchanged state Exhausted
offered_to state (bridge, offer.More) = changed bridge state.memory More
offered_to state (bridge, offer.Accepted number) = changed bridge state.memory (Accepted number)

-- the next burst goes to the memory, if a request is ready
abbrev pub pumped : WorldState → Option Burst → Outcome
pumped state None = unchanged state Idle
pumped state (Some burst) =
    record {
      state = record { bridge = after_pump state.bridge; memory = with_burst state.memory burst; last_sent = Some burst };
      answer = Sent state.memory.sent;
      burst = Some burst;
      reply = [];
    }

-- a beat is performed, if it waits
abbrev pub performed_by : WorldState → FreeMemory × Performed → Outcome
performed_by state (memory, perform.NoSuch) = unchanged state NoSuch
performed_by state (memory, perform.Already) = unchanged state Already
performed_by state (memory, perform.Done) = changed state.bridge memory Done

-- an answer of the memory goes to the bridge, if the ID has one
abbrev pub answered_b : WorldState → ℕ → Option BBeat → Outcome
answered_b state id None = unchanged state Nothing
answered_b state id (Some b) = changed (after_b_beat state.bridge b) (after_b_of state.memory id) (B b)

abbrev pub answered_r : WorldState → ℕ → Option RBeat → Outcome
answered_r state id None = unchanged state Nothing
answered_r state id (Some r) = changed (after_r_beat state.bridge r) (after_r_of state.memory id) (R r)

-- a reply leaves, if the client has one
abbrev pub taken : WorldState → ℕ → Option BridgedRequest → Outcome
taken state client None = unchanged state Nothing
taken state client (Some request) =
    record (changed (after_take state.bridge client) state.memory (Reply request.flight.number)) { reply = reply_beats request }

-- what an event makes of the world
abbrev pub next : WorldState → Step → Outcome
next state (Offer client beat) = offered_to state (offered state.bridge client beat)
next state Pump = pumped state (burst_to_send state.bridge)
next state (Perform serial beat) = performed_by state (performed state.memory serial beat)
next state (AnswerB id) = answered_b state id (b_of state.memory id)
next state (AnswerR id) = answered_r state id (r_of state.memory id)
next state (Take client) =
    if nat_le state.bridge.requests.config.clients client then unchanged state NoClient else taken state client (reply_taken state.bridge client)

-- the state after a list of events
abbrev pub after : WorldState → List Step → WorldState
after state [] = state
after state (step ∷ steps) = after (next state step).state steps

-- what a list of events gives, one outcome for each
abbrev pub outcomes : WorldState → List Step → List Outcome
outcomes state [] = []
outcomes state (step ∷ steps) = next state step ∷ outcomes (next state step).state steps

-- whether an answer tells that nothing changed
abbrev pub leaves_all : Answer → Bool
leaves_all More = false
leaves_all (Accepted number) = false
leaves_all NotReady = true
leaves_all Exhausted = true
leaves_all (Refused rule) = true
leaves_all NoClient = true
leaves_all (Sent serial) = false
leaves_all Idle = true
leaves_all Done = false
leaves_all NoSuch = true
leaves_all Already = true
leaves_all (B b) = false
leaves_all (R r) = false
leaves_all Nothing = true
leaves_all (Reply number) = false

-- whether an answer tells that a reply was handed out
abbrev pub is_reply : Answer → Bool
is_reply More = false
is_reply (Accepted number) = false
is_reply NotReady = false
is_reply Exhausted = false
is_reply (Refused rule) = false
is_reply NoClient = false
is_reply (Sent serial) = false
is_reply Idle = false
is_reply Done = false
is_reply NoSuch = false
is_reply Already = false
is_reply (B b) = false
is_reply (R r) = false
is_reply Nothing = false
is_reply (Reply number) = true

-- ---- what bridge and memory can do by themselves

-- Pump where a request is ready, Perform by rising serial and beat, AnswerB by rising ID, AnswerR by rising ID
abbrev pub pumps_enabled : WorldState → List Step
pumps_enabled state = if is_some (burst_to_send state.bridge) then Pump ∷ [] else []

abbrev pub perform_at : ℕ × ℕ → Step
perform_at place = Perform place.0 place.1

abbrev pub enabled : WorldState → List Step
enabled state =
    pumps_enabled state ++ (map perform_at (waiting_beats state.memory) ++ (map AnswerB (ids_with_b state.memory) ++ map AnswerR (ids_with_r state.memory)))

-- from old to new by n events, each the first that is enabled, until none is
abbrev pub Drains : WorldState → ℕ → WorldState → Type 0
Drains old zero new = (enabled old ≡ []) × (new ≡ old)
Drains old (suc n) new = (step : Step) × (rest : List Step) × (enabled old ≡ step ∷ rest) × Drains (next old step).state n new

-- ---- queries

-- the work left: bursts to send, beats to perform, answers to come; the write of an atomic counts from the start
abbrev pub work_left : WorldState → ℕ
work_left state = unsent (flight_table_of state.bridge.requests) + work_open state.memory

-- how many requests were accepted and aren't done
abbrev pub in_flight : WorldState → ℕ
in_flight state = bridges.in_flight state.bridge

-- every accepted request is done
abbrev pub IsQuiet : WorldState → Type 0
IsQuiet state = in_flight state ≡ 0

-- the byte at an address, on good pages alone
abbrev pub byte_of : WorldState → ℕ → Option ℕ
byte_of state address = byte_at_address state.memory.memory address

-- ---- drain

-- the first enabled events, at most `most` of them, until none is enabled: how many, and the state after them
abbrev pub one_more : ℕ × WorldState → ℕ × WorldState
one_more drained = (drained.0 + 1, drained.1)

abbrev pub drained_within : ℕ → WorldState → ℕ × WorldState
drained_within zero state = (0, state)
drained_within (suc most) state =
    elim (enabled state) as (λ _. ℕ × WorldState) [ [] ↦ (0, state) | step ∷ rest ↦ one_more (drained_within most (next state step).state) ]

-- a drain makes at most as many events as there is work
abbrev pub drained : WorldState → ℕ × WorldState
drained state = drained_within (work_left state) state
