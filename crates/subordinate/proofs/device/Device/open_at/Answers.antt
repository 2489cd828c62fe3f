-- The open burst at the first place that passes a test is the one that a search finds.
use Rattle.std.proofs.Common.{◌≡◌, ◌<◌, length, subst, sym, ◌∙◌, ap}
use Rattle.std.specs.Prelude.{Some, find, position, slice_get}
use Rattle.subordinate.specs.Device.{DeviceState}
use Rattle.subordinate.specs.Laws.{IsSoundPending}
use Rattle.subordinate.proofs.OpenBursts.{all-placed}
use Rattle.subordinate.proofs.OpenQueues.{at_place, found_here}
use Rattle.subordinate.proofs.device.Device.open_at.Goals as goal

pub returns-clause-found : goal.returns-clause-found
returns-clause-found c = λ test place.
    subst (λ (device : DeviceState). find test device.memory.pending ≡ Some c.at.result.now) c.self.view_is
    (found_here test c.self.inside.«open» c.args.place c.at.result.now (ap (λ (device : DeviceState). position test device.memory.pending) c.self.view_is ∙ place) c.at.ensures)

pub returns-clause-here : goal.returns-clause-here
returns-clause-here c = subst (λ (device : DeviceState). slice_get device.memory.pending c.args.place ≡ Some c.at.result.now) c.self.view_is c.at.ensures

pub returns-clause-sound : goal.returns-clause-sound
returns-clause-sound c =
    subst (λ (device : DeviceState). IsSoundPending device.memory.bus_bytes c.at.result.now) c.self.view_is
    (all-placed (IsSoundPending c.self.inside.bus_bytes) c.self.inside.«open» c.args.place c.at.result.now c.self.invariant.0.each within (at_place c.self.inside.«open» c.args.place c.at.result.now within c.at.ensures))
  where
    within : c.args.place < length c.self.inside.«open»
    within = subst (λ (device : DeviceState). c.args.place < length device.memory.pending) (sym c.self.view_is) c.requires
