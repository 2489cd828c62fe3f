-- `config` opens the set-up, and any other line that may stand has room in it.
use Rattle.std.proofs.Common.{◌≡◌, Err, Ok, ap, sym, ◌∙◌, rules}
use Rattle.script_text.specs.Forms.{told_as}
use Rattle.script_text.specs.Stages.{SettingUp, is_misplaced, stage_as, stage_of}
use Rattle.script_text.specs.declared.keywords.Form.TheVariants as form
use Rattle.script_text.proofs.stages.StagedScript.set_up.Goals.{in-Config, in_default}
use Rattle.script_text.proofs.stages.StagedScript.set_up.Goals as goal

pub returns-in_err-setup : goal.returns-in_err-setup
returns-in_err-setup g c =
    let is_config : c.args.form ≡ form.Config = elim c.match-matches.branch [ in-Config w ↦ w.in-Config.is | in_default w ↦ search rules ] in
    let same : c.from_residual.result ≡ Err c.in_err-setup.field-0.0 = search rules in
    rw (is_config, same) (ap (told_as (λ setup. SettingUp setup g.K.Kind.rules.own_opening)) (sym (g.met.K.Kind.adds_up.of_config c.args.words.now c.of_config.result c.of_config.ensures) ∙ ap (told_as g.K.Kind.lists) c.in_err-setup.was))

pub returns-then-matches : goal.returns-then-matches
returns-then-matches g c =
    let is_config : c.args.form ≡ form.Config = elim c.match-matches.branch [ in-Config w ↦ w.in-Config.is | in_default w ↦ search rules ] in
    rw is_config
    (ap (told_as (λ setup. SettingUp setup g.K.Kind.rules.own_opening)) (sym (g.met.K.Kind.adds_up.of_config c.args.words.now c.of_config.result c.of_config.ensures) ∙ ap (told_as g.K.Kind.lists) c.in_ok-setup.was)
    ∙ ap (λ own. Ok (SettingUp (g.K.Kind.lists c.in_ok-setup.setup) own)) (sym c.own_opening.ensures))

pub add-requires : goal.add-requires
add-requires g c =
    let stage_is : stage_as g.K.Kind.lists g.K.Kind.said c.args.self.now ≡ SettingUp (g.K.Kind.lists c.in-SettingUp.setup) c.in-SettingUp.field-1 =
    ap (stage_as g.K.Kind.lists g.K.Kind.said) (sym c.self.view_is ∙ ap stage_of c.in-SettingUp.is) in
    g.met.K.Kind.adds_up.has_no_room c.in-SettingUp.setup c.args.form c.args.words.now
    ∙ ap (λ stage. is_misplaced g.K.Kind.rules stage c.args.form c.args.words.now) (sym stage_is) ∙ c.requires
