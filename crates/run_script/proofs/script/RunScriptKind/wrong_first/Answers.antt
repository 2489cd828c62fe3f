-- No command is wrong as the first one, but where its line is.
use Rattle.std.proofs.Common.{◌≡◌, ℕ, Ok, Err, Result, ap, refl, ◌∙◌}
use Rattle.std.specs.Result.{result_err}
use Rattle.script_text.specs.Forms.{told_as}
use Rattle.setups.specs.Setups.{lists_of}
use Rattle.script_text.proofs.StageSteps.{never_wrong}
use Rattle.run_script.specs.Run.{line_says, run_kind}
use Rattle.run_script.proofs.script.RunScriptKind.wrong_first.Goals as goal

err_told : {X Y : Type 0} (tell : X → Y) (told : Result X ℕ) → result_err (told_as tell told) ≡ result_err told
err_told tell (Ok value) = refl
err_told tell (Err word) = refl

pub returns : goal.returns
returns c =
    λ number.
    c.err.ensures.value ∙ ap result_err c.check.ensures ∙ err_told (λ command. tt) (line_says c.args.words.now)
    ∙ never_wrong run_kind (run_kind.opened tt (lists_of c.args._setup.now)) number (line_says c.args.words.now) (λ world command. refl)
