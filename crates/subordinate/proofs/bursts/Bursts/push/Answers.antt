-- It is the last of its queue, and waits.
use Rattle.std.proofs.Common.{List, length, arith, ap, ◌∙◌}
use Rattle.subordinate.specs.Bursts.{owed_by, waiting_of}
use Rattle.subordinate.specs.FreeMemory.{Pending}
use Rattle.subordinate.proofs.BurstCounts.{counted_push, few_summed}
use Rattle.subordinate.proofs.BurstIndex.{pushed}
use Rattle.subordinate.proofs.bursts.Bursts.push.Goals as goal

pub overflow_add-self : goal.overflow_add-self
overflow_add-self c =
    let inside = c.self.inside in
    omega (
      arith,
      c.from.ensures,
      c.waiting.ensures.most,
      few_summed waiting_of inside.items.items inside.waiting c.self.invariant.1.waits,
      c.requires.room,
      ap (λ (bursts : List Pending). length bursts) c.self.view_is,
    )

pub overflow_add-self-2 : goal.overflow_add-self-2
overflow_add-self-2 c =
    let inside = c.self.inside in
    omega (
      arith,
      c.from-2.ensures,
      c.answers_left.ensures.most,
      few_summed owed_by inside.items.items inside.owed c.self.invariant.1.owes,
      c.requires.room,
      ap (λ (bursts : List Pending). length bursts) c.self.view_is,
    )

pub invariant_of-self : goal.invariant_of-self
invariant_of-self c =
    let inside = c.self.inside in (
      rw (c.push_reserved.ensures.items, c.push.ensures, c.queue.ensures, c.serial.ensures) (pushed inside.items.items c.args.burst inside.queues inside.answers c.self.invariant.0 c.requires.queue c.requires.waits),
      rw c.push_reserved.ensures.items
          (counted_push inside.items.items c.args.burst inside.waiting inside.owed inside.first c.from.result c.from-2.result c.self.invariant.1 (c.from.ensures ∙ c.waiting.ensures.count)
          (omega (arith, c.from.ensures, c.waiting.ensures.most)) (c.from-2.ensures ∙ c.answers_left.ensures.count) (omega (arith, c.from-2.ensures, c.answers_left.ensures.most))),
      omega (arith, c.self.invariant.2, c.push_reserved.ensures.capacity),
    )
