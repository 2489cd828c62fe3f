-- A line has the fault that it has where a whole text is read; one that has text is refused.
use Rattle.std.proofs.Common.{◌≡◌, ℕ, ◌+◌, ◌<◌, Err, Result, ap, arith, rules, subst, sym, ◌∙◌}
use Rattle.std.proofs.lemmas.Bool.Decides.{nat_tests}
use Rattle.score_script.proofs.Observed.{next_is, setup_err_told, setup_text_told}
use Rattle.score_script.specs.Observations.{SetUpState, SetUpTold, next_number, stage_in}
use Rattle.score_script.specs.contracts.observation.SetUp.{the_view}
use Rattle.script_text.specs.declared.faults.ScriptFault.{ScriptFault}
use Rattle.score_script.proofs.observation.SetUp.line.Goals as goal

-- the number of the line
number_within : {number at : ℕ} → number < 4294967294 → at ≡ next_number number → at ≡ number + 1
number_within within is = is ∙ next_is _ within

pub returns-in_err-take_line : goal.returns-in_err-take_line
returns-in_err-take_line c =
    let within : c.args.self.now.number < 4294967294 = grind (arith, nat_tests, c.if-self-ge-MOST.false, c.self.view_is) in
    let number_is = number_within within (c.next_number-at.ensures ∙ ap (λ (s : SetUpState). next_number s.number) c.self.view_is) in
    let told_is : c.from_residual.result ≡ Err c.in_err-take_line.field-0.0 = search (rules, c.from_residual.ensures) in
    let after = the_view (record { script = c.take_line.new.script; number = c.self.inside.number }) in
    subst (λ (told : Result (Unit {0}) ScriptFault). SetUpTold c.args.self.now c.args.line.now after told) (sym told_is)
    (setup_err_told _ c.args.self.now after c.args.line.now c.next_number-at.result _ _ _ c.in_err-take_line.field-0.0 _ _ (ap stage_in c.self.view_is) number_is c.in_err-take_line.was c.take_line.ensures)

pub returns-then-branch : goal.returns-then-branch
returns-then-branch c =
    let within : c.args.self.now.number < 4294967294 = grind (arith, nat_tests, c.if-self-ge-MOST.false, c.self.view_is) in
    let number_is = c.next_number-at.ensures ∙ ap (λ (s : SetUpState). next_number s.number) c.self.view_is in
    setup_text_told c.args.self.now c.args.self.now c.args.line.now c.next_number-at.result _ _ _ _ _ (ap stage_in c.self.view_is) number_is within c.if-branch.true c.in_ok-take_line.ensures
