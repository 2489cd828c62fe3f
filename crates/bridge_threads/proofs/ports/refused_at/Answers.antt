-- A beat more is taken; and the beat after those is judged.
use Rattle.std.proofs.Common.{◌≡◌, ◌∙◌, None, Some, ap, refl, sym, subst, take}
use Rattle.std.specs.Prelude.{IfSome}
use Rattle.std.specs.Result.{result_err}
use Rattle.std.proofs.lemmas.List.{take_all}
use Rattle.bridge_threads.specs.RefusedBeats.{BreaksRule, front_after}
use Rattle.bridge_threads.proofs.FrontLemmas.{breaks_by, err_is, front_taken}
use Rattle.bridge_threads.proofs.ports.refused_at.Goals as goal

pub loop-beat-preserved : goal.loop-beat-preserved
loop-beat-preserved c =
    let taken = c.passes.ensures.taken c.if-not-passes.false in
    let before = c.loop-beat.invariant in
    let grown = front_taken c.loop-beat.port.limits (take c.args.index c.args.script.now) c.loop-beat.beat-index c.loop-beat.port.front _ _ c.loop-beat-test.true refl before.2 taken.0 in
    rw taken.1 (before.0, before.1, grown)

pub returns-clause-rule : goal.returns-clause-rule
returns-clause-rule c =
    let inv = c.loop-beat.invariant in
    let at_end : front_after c.loop-beat.port.limits None (take c.args.index c.args.script.now) ≡ Some c.loop-beat.port.front =
    ap (front_after c.loop-beat.port.limits None) (sym (take_all c.loop-beat.beat-index (take c.args.index c.args.script.now) c.loop-beat-test.false)) ∙ inv.2 in
    let told = c.err.ensures.value ∙ ap result_err c.judge.ensures ∙ err_is _ _ in
    let breaks = breaks_by c.loop-beat.port.limits c.args.script.now c.args.index c.loop-beat.port.front _ _ c.err.result c.if-index-script.false refl at_end (sym told) in
    subst (λ limits. IfSome c.err.result (BreaksRule limits c.args.script.now c.args.index)) inv.1 breaks
