-- A beat that was judged is joined to what the port holds.
use Rattle.std.proofs.Common.{◌≡◌, ap, sym, ◌∙◌, subst, None, Ok, refl}
use Rattle.tl_checker.specs.Inside.{limits_of, whole_at, port_state}
use Rattle.tl_checker.specs.Ports.{PortState, CameOfBeats, judged, port_after}
use Rattle.tl_checker.proofs.PortLaws.{came_by, can_join, state_after}
use Rattle.tl_checker.proofs.port.Port.take_judged.Goals as goal

pub join-requires : goal.join-requires
join-requires c =
    let inside = c.self.inside in
    let limits = limits_of inside.client inside.level inside.max_size in
    let came = c.self.invariant.1.front in
    can_join limits inside.stage inside.request c.args.beat.now c.args.busy c.args.progress c.self.invariant.0 came.0 came.1
    (ap (λ (port : PortState). judged port.limits port.front c.args.beat.now c.args.busy) c.self.view_is ∙ c.requires.told)

pub invariant_of-self : goal.invariant_of-self
invariant_of-self c =
    let inside = c.self.inside in
    let old = port_state inside.client inside.level inside.max_size inside.stage inside.request in
    let none : whole_at inside.stage inside.request ≡ None = ap (λ (port : PortState). port.whole) c.self.view_is ∙ c.requires.whole in
    let told : judged old.limits old.front c.args.beat.now c.args.busy ≡ Ok c.args.progress =
    ap (λ (port : PortState). judged port.limits port.front c.args.beat.now c.args.busy) c.self.view_is ∙ c.requires.told in (
      c.self.invariant.0,
      subst CameOfBeats
          (sym
          (state_after inside.client inside.level inside.max_size inside.stage c.stage_after-self-inside.result inside.request c.join.new.request c.args.beat.now c.args.progress none
          c.stage_after-self-inside.ensures (c.join.ensures old.limits refl)))
          (came_by old c.args.beat.now c.args.busy (Ok c.args.progress) told none c.self.invariant.1),
    )

pub returns : goal.returns
returns c =
    let inside = c.self.inside in
    let limits = limits_of inside.client inside.level inside.max_size in
    let none : whole_at inside.stage inside.request ≡ None = ap (λ (port : PortState). port.whole) c.self.view_is ∙ c.requires.whole in
    state_after inside.client inside.level inside.max_size inside.stage c.stage_after-self-inside.result inside.request c.join.new.request c.args.beat.now c.args.progress none
    c.stage_after-self-inside.ensures (c.join.ensures limits refl)
    ∙ ap (λ port. port_after port c.args.beat.now (Ok c.args.progress)) c.self.view_is
