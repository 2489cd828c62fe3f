-- A new world is the opening one, where nothing is accepted yet.
use Rattle.std.proofs.Common.{subst, sym}
use Rattle.std.proofs.lemmas.Result.{IfOk-weaker}
use Rattle.setups.specs.Setups.{lists_of}
use Rattle.world_run.specs.InOrder.{KeepsOrder}
use Rattle.world_run.proofs.OrderOpens.{keeps_opening}
use Rattle.world_run.proofs.ordered.opened.Goals as goal

pub returns-clause-order : goal.returns-clause-order
returns-clause-order c =
    IfOk-weaker c.new.result _ _
    (λ world opens order faults regions. subst (KeepsOrder order) (sym opens) (keeps_opening order (lists_of c.args.setup.now) faults regions))
    c.new.ensures.opens
