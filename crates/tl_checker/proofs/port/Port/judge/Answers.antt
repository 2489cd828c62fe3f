-- The answer by where the port stands.
use Rattle.std.proofs.Common.{◌≡◌, ap, sym, ◌∙◌, None, refl, inl, inr}
use Rattle.tl_checker.specs.Inside.{limits_of, front_at}
use Rattle.tl_checker.specs.Ports.{PortState, judged}
use Rattle.tl_checker.proofs.port.Port.judge.Goals as goal

pub returns-in-Begun : goal.returns-in-Begun
returns-in-Begun c =
    let limits = limits_of c.self.inside.client c.self.inside.level c.self.inside.max_size in
    c.judge_later.ensures limits c.args.busy
    ∙ ap (λ stage. judged limits (front_at stage c.self.inside.request) c.args.beat.now c.args.busy) (sym c.in-Begun.is)
    ∙ ap (λ (port : PortState). judged port.limits port.front c.args.beat.now c.args.busy) c.self.view_is

pub returns-in-Free : goal.returns-in-Free
returns-in-Free c =
    let limits = limits_of c.self.inside.client c.self.inside.level c.self.inside.max_size in
    let none : front_at c.self.inside.stage c.self.inside.request ≡ None = elim c.in-Free.is [ inl free ↦ rw free refl | inr whole ↦ rw whole refl ] in
    c.judge_first.ensures limits.client
    ∙ ap (λ front. judged limits front c.args.beat.now c.args.busy) (sym none)
    ∙ ap (λ (port : PortState). judged port.limits port.front c.args.beat.now c.args.busy) c.self.view_is
