-- The first command's line is checked, what it works on is made, and the line is carried out.
use Rattle.std.proofs.Common.{◌≡◌, Err, ap, sym, ◌∙◌, rules}
use Rattle.std.proofs.KnownBytes.{Keeps-refl}
use Rattle.script_text.proofs.StageSteps.{TakesStep-carried, TakesStep-unopened, wrong_step}
use Rattle.script_text.specs.Stages.{SettingUp, stage_as, stage_of}
use Rattle.script_text.proofs.stages.StagedScript.take_other_line.Goals as goal

pub returns-in-Some : goal.returns-in-Some
returns-in-Some g c =
    let stage_is : stage_as g.K.Kind.lists g.K.Kind.said c.args.self.now ≡ SettingUp (g.K.Kind.lists c.in-SettingUp.setup) c.in-SettingUp.own =
    ap (stage_as g.K.Kind.lists g.K.Kind.said) (sym c.self.view_is ∙ ap stage_of c.in-SettingUp.is) in
    rw (c.at-in-Some.ensures, stage_is, sym c.own_line.ensures ∙ c.in-None.is) (
      wrong_step g.K.Kind.rules (g.K.Kind.lists c.in-SettingUp.setup) c.in-SettingUp.own c.args.number c.in-Some.word (g.K.Kind.rules.command_of c.args.words.now)
          (sym (c.wrong_first.ensures c.args.number) ∙ c.in-Some.is),
      Keeps-refl (g.W.Write.contents c.args.writer.now),
    )

pub returns-in_err-world : goal.returns-in_err-world
returns-in_err-world g c =
    let stage_is : stage_as g.K.Kind.lists g.K.Kind.said c.args.self.now ≡ SettingUp (g.K.Kind.lists c.in-SettingUp.setup) c.in-SettingUp.own =
    ap (stage_as g.K.Kind.lists g.K.Kind.said) (sym c.self.view_is ∙ ap stage_of c.in-SettingUp.is) in
    let same : c.from_residual.result ≡ Err c.in_err-world.field-0.0 = search rules in
    rw (stage_is, sym c.own_line.ensures ∙ c.in-None.is, same)
    (TakesStep-unopened g.K.Kind.rules g.K.Kind.said _ (g.K.Kind.lists c.in-SettingUp.setup) c.in-SettingUp.own (SettingUp (g.K.Kind.lists c.in-SettingUp.setup) c.in-SettingUp.own) c.args.number (g.K.Kind.rules.command_of c.args.words.now) (g.W.Write.contents c.args.writer.now) c.in_err-world.field-0.0 g.met.K.Kind.gives_text
    (sym (c.wrong_first.ensures c.args.number) ∙ c.in_default-wrong_first.is) c.in_err-world.ensures)

pub returns : goal.returns
returns g c =
    let stage_is : stage_as g.K.Kind.lists g.K.Kind.said c.args.self.now ≡ SettingUp (g.K.Kind.lists c.in-SettingUp.setup) c.in-SettingUp.own =
    ap (stage_as g.K.Kind.lists g.K.Kind.said) (sym c.self.view_is ∙ ap stage_of c.in-SettingUp.is) in
    rw (stage_is, sym c.own_line.ensures ∙ c.in-None.is)
    (TakesStep-carried g.K.Kind.rules g.K.Kind.grows (SettingUp (g.K.Kind.lists c.in-SettingUp.setup) c.in-SettingUp.own) c.args.number (g.K.Kind.said c.in_ok-world.world) (g.K.Kind.said c.carry_line-wrote.new.world) (g.K.Kind.rules.command_of c.args.words.now) (g.W.Write.contents c.args.writer.now) (g.W.Write.contents c.carry_line-wrote.new.writer) c.carry_line-wrote.result
    c.in_ok-world.ensures c.carry_line-wrote.ensures)
