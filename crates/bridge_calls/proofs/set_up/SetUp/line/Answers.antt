-- A line does what it does where a whole text is read.
use Rattle.std.proofs.Common.{◌≡◌, ◌+◌, Err, Result, ap, rules, subst, sym}
use Rattle.bridge_calls.proofs.SetUpLines.{line_ends, line_goes}
use Rattle.bridge_calls.specs.SetUps.{SetUpState, SetUpTold, stage_in}
use Rattle.bridge_calls.specs.contracts.set_up.SetUp.{the_view}
use Rattle.script_text.specs.declared.faults.ScriptFault.{ScriptFault}
use Rattle.bridge_calls.proofs.set_up.SetUp.line.Goals as goal

pub returns-in_err-take_line : goal.returns-in_err-take_line
returns-in_err-take_line c =
    let number_is : c.self.inside.number + 1 ≡ c.args.self.now.number + 1 = ap (λ (s : SetUpState). s.number + 1) c.self.view_is in
    let told_is : c.from_residual.result ≡ Err c.in_err-take_line.field-0.0 = search (rules, c.from_residual.ensures) in
    let after = the_view (record { script = c.take_line.new.script; number = c.self.inside.number }) in
    subst (λ (told : Result (Unit {0}) ScriptFault). SetUpTold c.args.self.now c.args.line.now after told) (sym told_is)
    (line_ends c.args.self.now c.args.line.now (c.self.inside.number + 1) _ _ _ c.in_err-take_line.field-0.0 _ _ (ap stage_in c.self.view_is) number_is c.in_err-take_line.was c.take_line.ensures)

pub returns : goal.returns
returns c =
    let number_is : c.self.inside.number + 1 ≡ c.args.self.now.number + 1 = ap (λ (s : SetUpState). s.number + 1) c.self.view_is in
    (line_goes c.args.self.now c.args.line.now (c.self.inside.number + 1) _ _ _ _ _ (ap stage_in c.self.view_is) number_is c.in_ok-take_line.ensures, number_is)
