-- Bridge and memory agree after a beat was performed.
use Rattle.std.proofs.Common.{subst}
use Rattle.world.specs.Laws.{IsSoundWorld}
use Rattle.world.proofs.Taking.{paired_performed}
use Rattle.world.proofs.world.World.perform.Goals as goal

pub invariant_of-self-in-Done : goal.invariant_of-self-in-Done
invariant_of-self-in-Done c =
    (paired_performed c.self.inside.bridge c.self.inside.device c.perform.new.self c.args.serial c.args.beat c.self.invariant.0 c.perform.ensures.state c.perform.ensures.laws, c.self.invariant.1)

pub returns-in-Done-clause-laws : goal.returns-in-Done-clause-laws
returns-in-Done-clause-laws c = (
  subst IsSoundWorld c.self.view_is c.self.invariant.0.agree,
  (paired_performed c.self.inside.bridge c.self.inside.device c.perform.new.self c.args.serial c.args.beat c.self.invariant.0 c.perform.ensures.state c.perform.ensures.laws).agree,
)
