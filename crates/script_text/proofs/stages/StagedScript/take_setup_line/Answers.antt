use Rattle.std.proofs.Common.{sym, ◌∙◌}
use Rattle.script_text.proofs.StageSteps.{TakesStep-quiet, setup_step-added, silent_before}
use Rattle.script_text.specs.Stages.{stage_as}
use Rattle.script_text.proofs.stages.StagedScript.take_setup_line.Goals as goal

pub returns-in-Ok : goal.returns-in-Ok
returns-in-Ok g c =
    let stage = stage_as g.K.Kind.lists g.K.Kind.said c.args.self.now in
    let fits = sym c.is_misplaced.ensures ∙ c.if-is_misplaced.false in
    TakesStep-quiet g.K.Kind.rules g.K.Kind.grows stage (stage_as g.K.Kind.lists g.K.Kind.said c.set_up.new.self) _ (g.W.Write.contents c.args._writer.now)
    (setup_step-added g.K.Kind.rules stage (stage_as g.K.Kind.lists g.K.Kind.said c.set_up.new.self) c.args.number c.args.words.now c.args.form (sym c.takes.ensures ∙ c.if-not-takes.false) fits c.in-Ok.ensures)
    (silent_before g.K.Kind.rules stage c.args.form c.args.words.now fits)
