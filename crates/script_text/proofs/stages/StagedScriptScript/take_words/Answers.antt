use Rattle.std.proofs.Common.{ap, refl, sym, ◌∙◌}
use Rattle.script_text.proofs.StageSteps.{TakesStep-carried, early_where}
use Rattle.script_text.specs.Stages.{Running, stage_as, stage_of}
use Rattle.script_text.proofs.stages.StagedScriptScript.take_words.Goals as goal

pub returns-in-Running : goal.returns-in-Running
returns-in-Running g c =
    rw (ap (stage_as g.K.Kind.lists g.K.Kind.said) (sym c.self.view_is ∙ ap stage_of c.in-Running.is))
    (TakesStep-carried g.K.Kind.rules g.K.Kind.grows (Running (g.K.Kind.said c.in-Running.world)) c.args.number (g.K.Kind.said c.in-Running.world) (g.K.Kind.said c.carry_line.new.world) (g.K.Kind.rules.command_of c.args.words.now) (g.W.Write.contents c.args.writer.now) (g.W.Write.contents c.carry_line.new.writer) c.carry_line.result
    refl c.carry_line.ensures)

pub returns : goal.returns
returns g c =
    rw (sym c.self.view_is) (rw (early_where g.K.Kind.lists g.K.Kind.said c.self.inside.stage c.in_default.not-Running) c.take_early.ensures)
