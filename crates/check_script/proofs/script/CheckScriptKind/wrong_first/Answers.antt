-- No command is wrong as the first one, but where its line is.
use Rattle.std.proofs.Common.{ap, refl, ◌∙◌}
use Rattle.std.specs.Result.{result_err}
use Rattle.setups.specs.Setups.{lists_of}
use Rattle.script_text.proofs.StageSteps.{never_wrong}
use Rattle.check_script.specs.Check.{check_kind}
use Rattle.check_script.proofs.script.CheckScriptKind.wrong_first.Goals as goal

pub returns : goal.returns
returns c =
    λ number.
    c.err.ensures.value ∙ ap result_err c.check_command.ensures
    ∙ never_wrong check_kind (check_kind.opened tt (lists_of c.args._setup.now)) number (check_kind.command_of c.args.words.now) (λ world command. refl)
