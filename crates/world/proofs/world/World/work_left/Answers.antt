-- Both parts are small numbers, and the bridge counts the same work.
use Rattle.std.proofs.Common.{◌≡◌, ◌+◌, arith, subst}
use Rattle.bridge_core.specs.Bridge as bridges
use Rattle.subordinate.specs.FreeMemory.{performed_waiting}
use Rattle.world.specs.Inside.{world_state}
use Rattle.world.specs.World.{WorldState}
use Rattle.world.proofs.CountsAgree.{counts_agree}
use Rattle.world.proofs.world.World.work_left.Goals as goal

pub overflow_add-result : goal.overflow_add-result
overflow_add-result c = omega (arith, c.unsent_work.ensures.most, c.work_left.ensures.most)

pub returns-clause-bridge : goal.returns-clause-bridge
returns-clause-bridge c =
    let i = c.self.inside in
    subst (λ (state : WorldState). c.unsent_work.result + c.work_left.result + performed_waiting state.memory ≡ bridges.work_left state.bridge) c.self.view_is
    (omega (arith, c.unsent_work.ensures.work, c.work_left.ensures.work, counts_agree (world_state i.bridge i.device i.last_sent) c.self.invariant.0.agree))
