use Rattle.std.proofs.Common.{◌*◌, ap, ◌∙◌}
use Rattle.std.specs.List.{range_with_len}
use Rattle.std.specs.Prelude.{find}
use Rattle.subordinate.specs.Bursts.{is_queue_ready}
use Rattle.subordinate.specs.Device.{DeviceState}
use Rattle.subordinate.proofs.OpenQueues.{first_ready_b}
use Rattle.subordinate.proofs.device.Device.first_b.Goals as goal

pub returns : goal.returns
returns c =
    c.first_b.ensures ∙ ap (λ (device : DeviceState). find (λ id. is_queue_ready device.memory.pending (2 * id)) (range_with_len 0 16)) c.self.view_is ∙ first_ready_b c.args.self.now.memory (range_with_len 0 16)
