-- A line that says no command is wrong by that; a set-up that is refused has no wrong first command, and of another it is told what is wrong with it.
use Rattle.std.proofs.Common.{◌≡◌, None, ap, is_some, sym, ◌∙◌}
use Rattle.score_setup.specs.ScoreSetups.{lists_of, ranges_of, score_setup_fault}
use Rattle.score_script.specs.Scores.{carried_out, opening_score, score_kind, wrong_command}
use Rattle.score_script.proofs.FillLaws.{not_refused, refused_none, word_told}
use Rattle.script_text.proofs.StageSteps.{wrong_told}
use Rattle.score_script.proofs.script.ScoreScriptKind.wrong_first.Goals as goal

pub returns-in-Err : goal.returns-in-Err
returns-in-Err c = λ number. rw (sym c.command_of-read.ensures ∙ c.in-Err.is) (sym (wrong_told score_kind _ number c.in-Err.word))

pub returns-then-is_some : goal.returns-then-is_some
returns-then-is_some c =
    λ number.
    rw (sym c.command_of-read.ensures ∙ c.in-Ok.is)
    (refused_none score_kind (opening_score c.args._asked.now (ranges_of c.args.setup.now)) (score_setup_fault (lists_of c.args.setup.now)) number c.in-Ok.command
    (ap is_some (sym c.score_setup_fault.ensures) ∙ sym c.is_some.ensures ∙ c.if-is_some.true))

pub returns : goal.returns
returns c =
    λ number.
    let score = opening_score c.args._asked.now (ranges_of c.args.setup.now) in
    let none : score_setup_fault (lists_of c.args.setup.now) ≡ None = not_refused _ (ap is_some (sym c.score_setup_fault.ensures) ∙ sym c.is_some.ensures ∙ c.if-is_some.false) in
    rw (sym c.command_of-read.ensures ∙ c.in-Ok.is, none)
    (c.wrong_at_first.ensures c.args._asked.now
    ∙ sym (word_told (carried_out score number c.in-Ok.command) (wrong_command score c.in-Ok.command)))
