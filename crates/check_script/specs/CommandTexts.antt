-- Each command of `tlbridge check` has text.
use Rattle.std.proofs.Common.{◌≢◌, [], rules}
use Rattle.line_text.proofs.TraceTexts.{some_after, some_before}
use Rattle.script_text.specs.Stages.{GivesSome}
use Rattle.script_text.proofs.StageSteps.{some_given}
use Rattle.check_script.specs.Check.{check_kind}
use Rattle.check_script.specs.ClientPorts.{PortTable, before_verdict, check_text, table_after, verdict_on, verdict_text}
use Rattle.check_script.specs.declared.client_ports.Verdict.{Verdict}
use Rattle.check_script.specs.declared.client_ports.Verdict.TheVariants as verdict
use Rattle.check_script.specs.declared.lines.CheckCommand.{CheckCommand}

verdict_text-some : (v : Verdict) → verdict_text v ≢ []
verdict_text-some verdict.More none = search rules
verdict_text-some verdict.Whole none = search rules
verdict_text-some (verdict.Refused rule) none = search rules
verdict_text-some verdict.NoClient none = search rules
verdict_text-some verdict.Freed none = search rules
verdict_text-some verdict.NotBusy none = search rules

pub check_text-some : (table : PortTable) (command : CheckCommand) → check_text table command ≢ []
check_text-some table command = some_after (before_verdict command) _ (verdict_text-some (verdict_on table.clients command))

pub check_gives : GivesSome check_kind
check_gives table number command given is =
    some_given (λ after. (check_kind.ending after).0) (check_text table command, table_after table command) given is (some_before _ _ (check_text-some table command))
