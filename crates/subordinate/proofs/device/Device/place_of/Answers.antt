use Rattle.std.proofs.Common.{ap, ◌∙◌}
use Rattle.std.specs.Prelude.{position}
use Rattle.subordinate.specs.Device.{DeviceState}
use Rattle.subordinate.specs.FreeMemory.{has_serial}
use Rattle.subordinate.proofs.device.Device.place_of.Goals as goal

pub place_of-requires : goal.place_of-requires
place_of-requires c = (c.self.inside.sent, c.self.invariant.0.rising)

pub returns-clause-place : goal.returns-clause-place
returns-clause-place c = c.place_of.ensures ∙ ap (λ (device : DeviceState). position (has_serial c.args.serial) device.memory.pending) c.self.view_is
