-- At most 128 bursts are open.
use Rattle.std.proofs.Common.{arith, ap, ◌∙◌}
use Rattle.std.specs.Prelude.{sum_by}
use Rattle.subordinate.specs.Device.{DeviceState}
use Rattle.subordinate.specs.FreeMemory.{work_in}
use Rattle.subordinate.proofs.device.Device.work_left.Goals as goal

pub returns-clause-work : goal.returns-clause-work
returns-clause-work c = c.work_left.ensures.work ∙ ap (λ (device : DeviceState). sum_by work_in device.memory.pending) c.self.view_is

pub returns-clause-most : goal.returns-clause-most
returns-clause-most c = omega (arith, c.work_left.ensures.most, c.self.invariant.1.bursts)
