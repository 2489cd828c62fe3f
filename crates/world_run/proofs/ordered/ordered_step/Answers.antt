-- An event keeps the order.
use Rattle.std.proofs.Common.{subst, sym}
use Rattle.world.specs.Laws.{IsSoundWorld}
use Rattle.world_run.specs.InOrder.{KeepsOrder}
use Rattle.world_run.proofs.OrderSteps.{keeps_next}
use Rattle.world_run.proofs.ordered.ordered_step.Goals as goal

pub returns-clause-order : goal.returns-clause-order
returns-clause-order c order foreseen keeps =
    let state = c.step.ensures.state in
    subst (KeepsOrder order) (sym state)
    (keeps_next order c.args.world.now c.args.step.now c.step.ensures.laws_before (subst IsSoundWorld state c.step.ensures.laws) foreseen keeps)
