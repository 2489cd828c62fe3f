-- An offer hands out no reply.
use Rattle.std.proofs.Common.{◌≡◌, ◌∙◌, Bool, false, ap, sym, refl, subst}
use Rattle.std.specs.Prelude.{if◌then◌else◌}
use Rattle.bridge_core.specs.Bridge.{offered}
use Rattle.world.specs.World.{is_reply, next}
use Rattle.world.proofs.Kept.{offer_is_no_reply}
use Rattle.world.proofs.world.World.made.Goals as goal

pub returns-in-Offer-clause-reply : goal.returns-in-Offer-clause-reply
returns-in-Offer-clause-reply c =
    let none : is_reply c.offer.result ≡ false = ap is_reply c.offer.ensures.answer ∙ offer_is_no_reply c.args.self.now (offered c.args.self.now.bridge c.in-Offer.client c.in-Offer.beat) in
    subst (λ (test : Bool). c.args.reply.now ≡ (if test then (next c.args.self.now c.args.step.now).reply else c.args.reply.now)) (sym none) refl
