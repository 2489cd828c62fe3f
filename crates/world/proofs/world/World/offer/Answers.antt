-- Bridge and memory agree after an offer.
use Rattle.std.proofs.Common.{subst}
use Rattle.world.specs.Laws.{IsSoundWorld}
use Rattle.world.proofs.Taking.{paired_offered}
use Rattle.world.proofs.world.World.offer.Goals as goal

pub invariant_of-self-2 : goal.invariant_of-self-2
invariant_of-self-2 c = (paired_offered c.self.inside.bridge c.offer.new.self c.self.inside.device c.args.client c.args.beat.now c.self.invariant.0 c.offer.ensures.state c.offer.ensures.laws, c.self.invariant.1)

pub returns-clause-laws : goal.returns-clause-laws
returns-clause-laws c = (
  subst IsSoundWorld c.self.view_is c.self.invariant.0.agree,
  (paired_offered c.self.inside.bridge c.offer.new.self c.self.inside.device c.args.client c.args.beat.now c.self.invariant.0 c.offer.ensures.state c.offer.ensures.laws).agree,
)
