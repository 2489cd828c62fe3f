-- It is the waiting beat of that number.
use Rattle.std.proofs.Common.{◌<◌, List, length, sym, ap, subst, ◌∙◌}
use Rattle.std.specs.Prelude.{flat_map, slice_get}
use Rattle.subordinate.specs.Device.{DeviceState}
use Rattle.subordinate.specs.FreeMemory.{Pending, waiting_in}
use Rattle.subordinate.proofs.device.Device.pending_at.Goals as goal

abbrev pending_of : DeviceState → List Pending
pending_of device = device.memory.pending

pub waiting_at-requires : goal.waiting_at-requires
waiting_at-requires c = subst (λ (pending : List Pending). c.args.k < length (flat_map waiting_in pending)) (sym (ap pending_of c.self.view_is)) c.requires

pub returns : goal.returns
returns c = ap (λ (pending : List Pending). slice_get (flat_map waiting_in pending) c.args.k) (sym (ap pending_of c.self.view_is)) ∙ c.waiting_at.ensures
