-- Each open burst adds its own.
use Rattle.std.proofs.Common.{◌≤◌, List, length, arith, sym, ap, subst, ◌∙◌}
use Rattle.std.specs.List.{AllByRecursion}
use Rattle.std.specs.Prelude.{sum_by}
use Rattle.subordinate.specs.Device.{DeviceState}
use Rattle.subordinate.specs.FreeMemory.{Pending, performed_waiting_in}
use Rattle.subordinate.specs.Laws.{IsSoundPending}
use Rattle.subordinate.proofs.BeatStates.{sum_end, sum_step}
use Rattle.subordinate.proofs.OpenBursts.{all-placed}
use Rattle.subordinate.proofs.device.Device.performed_waiting.Goals as goal

pub loop-burst-init : goal.loop-burst-init
loop-burst-init c =
    let room = c.self.invariant.1 in
    let few : length c.as_slice-burst-items.result.now ≤ 128 = omega (arith, room.bursts, ap (λ (bursts : List Pending). length bursts) c.as_slice-burst-items.ensures) in
    (omega arith, omega arith, few)

pub performed_waiting-requires : goal.performed_waiting-requires
performed_waiting-requires c =
    let sound : IsSoundPending c.self.inside.bus_bytes c.burst-item.result =
    all-placed (IsSoundPending c.self.inside.bus_bytes) c.as_slice-burst-items.result.now c.loop-burst.burst-index c.burst-item.result
    (subst (λ (pending : List Pending). AllByRecursion (IsSoundPending c.self.inside.bus_bytes) pending) (sym c.as_slice-burst-items.ensures) c.self.invariant.0.each) c.loop-burst-test.true c.burst-item.is in
    record { answered = sound.answered; most = sound.most }

pub overflow_add-count : goal.overflow_add-count
overflow_add-count c = omega (arith, c.loop-burst.invariant.1, c.loop-burst.invariant.2, c.loop-burst-test.true, c.from-count.ensures, c.performed_waiting.ensures.most)

pub loop-burst-preserved : goal.loop-burst-preserved
loop-burst-preserved c = (
  sum_step performed_waiting_in c.as_slice-burst-items.result.now c.loop-burst.burst-index c.loop-burst.count c.from-count.result _ c.burst-item.result c.loop-burst-test.true c.burst-item.is (c.from-count.ensures ∙ c.performed_waiting.ensures.count) c.loop-burst.invariant.0,
  omega (arith, c.loop-burst.invariant.1, c.from-count.ensures, c.performed_waiting.ensures.most),
  c.loop-burst.invariant.2,
)

pub returns : goal.returns
returns c =
    sum_end performed_waiting_in c.as_slice-burst-items.result.now c.loop-burst.burst-index c.loop-burst.count _ c.loop-burst-test.false c.loop-burst.invariant.0
    ∙ ap (λ (pending : List Pending). sum_by performed_waiting_in pending) (c.as_slice-burst-items.ensures ∙ ap (λ (device : DeviceState). device.memory.pending) c.self.view_is)
