use Rattle.std.proofs.Common.{length, sym, ap, ◌∙◌}
use Rattle.subordinate.specs.Device.{DeviceState}
use Rattle.subordinate.specs.FreeMemory.{waiting_beats}
use Rattle.subordinate.proofs.BeatStates.{length-waiting_beats}
use Rattle.subordinate.proofs.device.Device.pending.Goals as goal

pub returns : goal.returns
returns c = c.waiting.ensures ∙ sym (length-waiting_beats c.self.inside.«open») ∙ ap (λ (device : DeviceState). length (waiting_beats device.memory)) c.self.view_is
