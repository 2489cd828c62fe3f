-- It isn't to stop, and no client is at work: then the choices tell.
use Rattle.std.proofs.Common.{◌∙◌, ap, arith, length, sym}
use Rattle.world.specs.World.{enabled}
use Rattle.bridge_threads.proofs.TurnLemmas.{over_by}
use Rattle.bridge_threads.proofs.turns.is_over.Goals as goal

pub returns : goal.returns
returns c =
    over_by c.args.shared.now.stop c.args.shared.now.working (length (enabled c.args.shared.now.world)) c.choices.result (sym c.is_stopped.ensures ∙ c.if-is_stopped.false)
    (omega (arith, c.working.ensures, c.if-working-gt0.false)) (c.choices.ensures ∙ ap (λ w. length (enabled w)) c.world.ensures.world)
