-- An answer that tells of no change is right, and neither part refuses the other.
use Rattle.std.proofs.Common.{◌≡◌, ◌∙◌, true, subst}
use Rattle.world.specs.World.{leaves_all}
use Rattle.world.proofs.Kept.{next_kept}
use Rattle.world.proofs.TakesAll.{takes_all}
use Rattle.world.proofs.world.World.step.Goals as goal

pub returns-clause-kept : goal.returns-clause-kept
returns-clause-kept c still = c.made.ensures.state ∙ next_kept c.args.self.now c.args.step.now (subst (λ answer. leaves_all answer ≡ true) c.made.ensures.answer still)

pub returns-clause-take_all : goal.returns-clause-take_all
returns-clause-take_all c = takes_all c.args.self.now c.made.ensures.laws.0
