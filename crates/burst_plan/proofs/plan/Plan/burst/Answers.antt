use Rattle.std.proofs.Common.{◌<◌, sym, length, arith, rules, subst}
use Rattle.burst_plan.specs.Pieces.{PlannedRange, pieces}
use Rattle.burst_plan.proofs.PlanLaws.{burst_fits, burst_made, bytes_made}
use Rattle.burst_plan.proofs.plan.Plan.burst.Goals as goal

pub overflow_add-result : goal.overflow_add-result
overflow_add-result c =
    let i = c.self.inside in
    let below =
    burst_fits _ _ c.args.k c.self.invariant.plannable (omega arith) (bytes_made _ i.count i.len i.transfer_size c.from.result c.self.invariant c.from.ensures)
    (subst (λ (range : PlannedRange). c.args.k < length (pieces range)) (sym c.self.view_is) c.requires) in
    rw c.from-2.ensures (search rules)

pub returns-clause-piece : goal.returns-clause-piece
returns-clause-piece c =
    let i = c.self.inside in
    rw (← c.self.view_is, c.from-2.ensures)
    (burst_made _ i.count i.len i.transfer_size _ c.args.k c.self.invariant (bytes_made _ i.count i.len i.transfer_size c.from.result c.self.invariant c.from.ensures)
    (subst (λ (range : PlannedRange). c.args.k < length (pieces range)) (sym c.self.view_is) c.requires))
