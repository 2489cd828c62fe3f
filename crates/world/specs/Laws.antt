-- What is true of every world that the events make: bridge and memory agree, and neither refuses what the other hands it. It knows both
-- parts by their own laws and by the bursts that are outstanding between them; which bytes these carry is left to world_run.
use Rattle.std.specs.Prelude.{ℕ, ◌≡◌, ◌+◌, ◌-◌, ◌*◌, ◌≤◌, ◌^◌, List, [], ◌∷◌, length, None, IfSome, sum_by}
use Rattle.axi_beats.specs.Bursts.{Burst, IsLegal}
use Rattle.axi_checker.specs.Rules.{burst_fault}
use Rattle.flight_table.specs.LiveRequests.{all_sent}
use Rattle.flight_table.specs.Work.{spared_work}
use Rattle.bridge_core.specs.Bridge.{BridgeState, burst_to_send, b_fault, r_fault}
use Rattle.config.specs.Configs.{axi_port_of}
use Rattle.bridge_core.specs.Laws.{IsSoundBridge}
use Rattle.subordinate.specs.FreeMemory.{FreeMemory, open_bursts_of, send_fault, b_of, r_of}
use Rattle.subordinate.specs.Laws.{IsSoundMemory}
use Rattle.world.specs.World.{WorldState, Drains, IsQuiet, next, work_left}
use Rattle.world.specs.declared.Step.{Step}

-- how many bursts the live requests have sent
abbrev pub bursts_sent : BridgeState → ℕ
bursts_sent bridge = sum_by (λ request. all_sent request.flight) bridge.requests.live

-- serials don't run out: a request sends at most 2,048 bursts, of which those that are live know how many they sent
pub record HasSerials (bridge : BridgeState) (memory : FreeMemory) : Type 0 where
  -- the bridge gives no more numbers than this
  pub accepted : bridge.requests.accepted ≤ 2 ^ 48
  pub live : length bridge.requests.live ≤ bridge.requests.accepted
  -- serials count all bursts: those of requests that left, at most 2,048 each, and those that live ones sent
  pub sent : memory.sent ≤ 2048 * (bridge.requests.accepted - length bridge.requests.live) + bursts_sent bridge

-- bridge and memory have the same bursts outstanding, over one bus
pub record Agree (bridge : BridgeState) (memory : FreeMemory) : Type 0 where
  -- each part keeps its own laws
  pub bridge_laws : IsSoundBridge bridge
  pub memory_laws : IsSoundMemory memory
  pub bus : memory.bus_bytes ≡ bridge.requests.config.axi_bytes
  -- what the bridge's monitor has outstanding is what is open in the memory, in the order sent, with as many beats answered
  pub outstanding : bridge.open_bursts ≡ open_bursts_of memory
  pub serials : HasSerials bridge memory

-- the law of a world
abbrev pub IsSoundWorld : WorldState → Type 0
IsSoundWorld state = Agree state.bridge state.memory

-- a burst that goes is legal and breaks no rule of the bridge's port, and the memory takes it
pub record GoesWell (state : WorldState) (burst : Burst) : Type 0 where
  pub legal : IsLegal state.bridge.requests.config.axi_bytes burst
  pub unbroken : burst_fault (axi_port_of state.bridge.requests.config) state.bridge.open_bursts burst ≡ None
  pub taken : send_fault state.memory burst ≡ None

-- neither refuses what the other hands it
pub record TakeAll (state : WorldState) : Type 0 where
  -- the memory takes the burst that a Pump would send
  pub pump : IfSome (burst_to_send state.bridge) (GoesWell state)
  -- the bridge takes each answer that the memory would give
  pub b : (id : ℕ) → IfSome (b_of state.memory id) (λ b. b_fault state.bridge b ≡ None)
  pub r : (id : ℕ) → IfSome (r_of state.memory id) (λ r. r_fault state.bridge r ≡ None)

-- ---- drain

-- the work that was spared, since an atomic doesn't write whose read failed
abbrev pub work_spared : WorldState → ℕ
work_spared state = sum_by (λ request. spared_work request.flight) state.bridge.requests.live

-- n events drain a world: each is the first that is enabled and takes one from the work, but the last read of a failed atomic, which also takes
-- the work of its write; then nothing is enabled, no work is left and all that was accepted is done
pub record IsDrained (old : WorldState) (n : ℕ) (new : WorldState) : Type 0 where
  pub steps : Drains old n new
  -- one step for each unit of the work that was left, but for what was spared meanwhile
  pub count : n + (work_spared new - work_spared old) ≡ work_left old
  pub spared : work_spared old ≤ work_spared new
  pub nothing_left : work_left new ≡ 0
  pub quiet : IsQuiet new

-- ---- along a list of events

-- the laws hold at each state that a list of events comes by
abbrev pub AreSoundAlong : WorldState → List Step → Type 0
AreSoundAlong state [] = IsSoundWorld state
AreSoundAlong state (step ∷ steps) = IsSoundWorld state × AreSoundAlong (next state step).state steps
