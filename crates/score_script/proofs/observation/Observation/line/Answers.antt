-- A line is skipped, at fault, or does what its command does.
use Rattle.std.proofs.Common.{◌≡◌, ℕ, Err, Ok, false, true, refl, ap, subst, sym, ◌∙◌, rules}
use Rattle.line_text.specs.Words.{is_plain_line, is_skipped, words_of}
use Rattle.std.specs.Str.Lines.{strip_carriage_return}
use Rattle.score_script.proofs.Observed.{command_line, line_told, next_within, skipped_told, wrong_line}
use Rattle.score_script.specs.ObservedLines.{command_of}
use Rattle.score_script.specs.Observations.{TakeTold, next_number, observing_of}
use Rattle.score_script.specs.ScoreStates.{score_of}
use Rattle.score_script.specs.declared.findings.Findings.{Findings}
use Rattle.script_text.specs.declared.faults.ScriptFault.TheVariants.{Script}
use Rattle.score_script.proofs.observation.Observation.line.Goals as goal

pub returns-then-are_skipped : goal.returns-then-are_skipped
returns-then-are_skipped c =
    let text_is = c.without_return-text.ensures in
    let plain : is_plain_line (strip_carriage_return c.args.line.now) ≡ true = ap is_plain_line (sym text_is) ∙ sym c.may_stand.ensures ∙ c.if-not-may_stand.false in
    let skipped : is_skipped (words_of (strip_carriage_return c.args.line.now)) ≡ true =
    ap (λ t. is_skipped (words_of t)) (sym text_is) ∙ ap is_skipped (sym c.read.ensures) ∙ sym c.are_skipped.ensures ∙ c.if-are_skipped.true in
    let number_is : c.next_number-number.result ≡ next_number c.args.self.now.number = search rules in (
      skipped_told (observing_of c.args.self.now) (observing_of c.note.new.self) c.args.line.now plain skipped (ap score_of c.note.ensures.score)
          (ap (λ (f : Findings). f.held) c.note.ensures.found ∙ c.none.ensures.held) (ap (λ (f : Findings). f.own) c.note.ensures.found ∙ c.none.ensures.own)
          (ap (λ (f : Findings). f.over) c.note.ensures.found ∙ c.none.ensures.over),
      c.note.ensures.number ∙ number_is,
      c.note.ensures.code,
    )

pub returns-in-Err : goal.returns-in-Err
returns-in-Err c =
    let text_is = c.without_return-text.ensures in
    let plain : is_plain_line (strip_carriage_return c.args.line.now) ≡ true = ap is_plain_line (sym text_is) ∙ sym c.may_stand.ensures ∙ c.if-not-may_stand.false in
    let some : is_skipped (words_of (strip_carriage_return c.args.line.now)) ≡ false =
    ap (λ t. is_skipped (words_of t)) (sym text_is) ∙ ap is_skipped (sym c.read.ensures) ∙ sym c.are_skipped.ensures ∙ c.if-are_skipped.false in
    let read : command_of (words_of (strip_carriage_return c.args.line.now)) ≡ Err c.in-Err.word =
    ap (λ t. command_of (words_of t)) (sym text_is) ∙ ap command_of (sym c.read.ensures) ∙ sym c.command_of.ensures ∙ c.in-Err.is in
    let number_is : c.next_number-number.result ≡ next_number c.args.self.now.number = search rules in (
      wrong_line (score_of c.args.self.now.score) (next_number c.args.self.now.number) c.in-Err.word (strip_carriage_return c.args.line.now) plain (next_within c.args.self.now.number) some read
          ∙ ap (λ (n : ℕ). Err (Script n c.in-Err.word)) (sym number_is),
      refl,
    )

pub returns-in-Ok : goal.returns-in-Ok
returns-in-Ok c =
    let text_is = c.without_return-text.ensures in
    let plain : is_plain_line (strip_carriage_return c.args.line.now) ≡ true = ap is_plain_line (sym text_is) ∙ sym c.may_stand.ensures ∙ c.if-not-may_stand.false in
    let some : is_skipped (words_of (strip_carriage_return c.args.line.now)) ≡ false =
    ap (λ t. is_skipped (words_of t)) (sym text_is) ∙ ap is_skipped (sym c.read.ensures) ∙ sym c.are_skipped.ensures ∙ c.if-are_skipped.false in
    let read : command_of (words_of (strip_carriage_return c.args.line.now)) ≡ Ok c.in-Ok.command =
    ap (λ t. command_of (words_of t)) (sym text_is) ∙ ap command_of (sym c.read.ensures) ∙ sym c.command_of.ensures ∙ c.in-Ok.is in
    let number_is : c.next_number-number.result ≡ next_number c.args.self.now.number = search rules in
    line_told (observing_of c.args.self.now) (observing_of c.take.new.self) c.args.line.now c.in-Ok.command c.take.result
    (command_line (score_of c.args.self.now.score) (next_number c.args.self.now.number) (strip_carriage_return c.args.line.now) c.in-Ok.command plain (next_within c.args.self.now.number) some read)
    (subst (λ (n : ℕ). TakeTold (observing_of c.args.self.now) n c.in-Ok.command (observing_of c.take.new.self) c.take.result) number_is c.take.ensures)
