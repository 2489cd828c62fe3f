-- No line says a command.
use Rattle.std.proofs.Common.{sym}
use Rattle.script_text.proofs.StageSteps.{wrong_told}
use Rattle.bridge_calls.specs.SetUps.{set_up_kind}
use Rattle.bridge_calls.proofs.set_up.SetUpAloneKind.wrong_first.Goals as goal

pub returns : goal.returns
returns c = λ number. sym (wrong_told set_up_kind _ number 1)
