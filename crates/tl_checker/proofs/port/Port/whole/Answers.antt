-- What stands was spelled, so it is sound.
use Rattle.std.proofs.Common.{subst}
use Rattle.std.specs.Prelude.{IfSome}
use Rattle.tl_checker.specs.Ports.{PortState, HasSpelling}
use Rattle.tl_checker.proofs.RequestLaws.{whole_sound}
use Rattle.tl_checker.proofs.port.Port.whole.Goals as goal

pub returns-in-Whole-clause-sound : goal.returns-in-Whole-clause-sound
returns-in-Whole-clause-sound c =
    whole_sound c.args.self.now.limits c.args.self.now.whole
    (subst (λ (port : PortState). IfSome port.whole (HasSpelling port.limits)) c.self.view_is c.self.invariant.1.whole)
