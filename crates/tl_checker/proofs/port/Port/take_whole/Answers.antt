-- What is handed out was spelled, so it is sound.
use Rattle.std.proofs.Common.{IsSome, sym, subst, rules}
use Rattle.tl_messages.specs.Requests.{HeldMessage}
use Rattle.tl_checker.specs.Inside.{port_state, whole_at}
use Rattle.tl_checker.specs.Ports.{PortState}
use Rattle.tl_checker.specs.Sound.{IsSound}
use Rattle.tl_checker.proofs.RequestLaws.{standing_sound}
use Rattle.tl_checker.proofs.port.Port.take_whole.Goals as goal

pub returns-clause-sound : goal.returns-clause-sound
returns-clause-sound c =
    let inside = c.self.inside in
    let port = port_state inside.client inside.level inside.max_size inside.stage inside.request in
    let stands : IsSome (whole_at inside.stage inside.request) = subst (λ (p : PortState). IsSome p.whole) (sym c.self.view_is) c.requires in
    let sound = standing_sound port.limits inside.stage inside.request stands c.self.invariant.1.whole in
    subst (λ (message : HeldMessage). IsSound c.args.self.now.limits message) (sym c.swap.ensures.y_after)
    (subst (λ (p : PortState). IsSound p.limits inside.request) c.self.view_is sound)

pub invariant_of-self : goal.invariant_of-self
invariant_of-self c = search rules
