-- How the parts of a world make its state, and what they keep that no state shows: boxes. Only the code of the world knows it.
use Rattle.std.specs.Prelude.{ℕ, ◌≡◌, ◌+◌, [], length, Option, option_and_then}
use Rattle.bridge_core.specs.Bridge.{StockedBridge, boxes_of}
use Rattle.subordinate.specs.Device.{DeviceState, open_burst}
use Rattle.world.specs.Laws.{Agree}
use Rattle.world.specs.World.{WorldState}

-- the burst last sent is that of a serial
abbrev pub world_state : StockedBridge → DeviceState → Option ℕ → WorldState
world_state bridge device serial =
    record { bridge = bridge.state; memory = device.memory; last_sent = option_and_then (open_burst device.memory) serial }

-- a bridge and its memory: they agree, no box of a closed burst waits in the memory, and each box is in stock or holds a burst that is open
pub record ArePaired (bridge : StockedBridge) (device : DeviceState) : Type 0 where
  pub agree : Agree bridge.state device.memory
  pub none_closed : device.closed ≡ []
  pub boxes : bridge.stock + length device.memory.pending ≡ boxes_of bridge.state.requests.config
