use Rattle.std.proofs.Common.{ℕ, ◌*◌, ap, ◌∙◌}
use Rattle.std.specs.Prelude.{position}
use Rattle.subordinate.specs.Bursts.{is_in}
use Rattle.subordinate.specs.Device.{DeviceState}
use Rattle.subordinate.specs.FreeMemory.{is_write_of}
use Rattle.subordinate.proofs.OpenQueues.{write_place}
use Rattle.subordinate.proofs.device.Device.oldest_write.Goals as goal

pub oldest-requires : goal.oldest-requires
oldest-requires c = (c.self.inside.sent, c.self.invariant.0.rising)

pub returns-clause-place : goal.returns-clause-place
returns-clause-place c =
    c.oldest.ensures ∙ ap (λ (id : ℕ). position (is_in (2 * id)) c.self.inside.«open») c.from.ensures ∙ write_place c.args.id c.self.inside.«open»
    ∙ ap (λ (device : DeviceState). position (is_write_of c.args.id) device.memory.pending) c.self.view_is
