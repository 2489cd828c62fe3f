use Rattle.std.proofs.Common.{◌≡◌, None, Some, ap, sym, ◌∙◌}
use Rattle.line_text.specs.Words.{word_at}
use Rattle.script_text.specs.Forms.{form_of}
use Rattle.script_text.proofs.stages.StagedScript.take_early.Goals as goal

pub returns-in_default : goal.returns-in_default
returns-in_default g c =
    let named : form_of (word_at c.args.words.now 1) ≡ None = ap form_of (sym c.at.ensures) ∙ sym c.named.ensures ∙ c.in_default.is in
    rw (sym c.passes.ensures ∙ c.if-passes.false, named) c.take_other_line.ensures

pub returns-then-is_setup_form : goal.returns-then-is_setup_form
returns-then-is_setup_form g c =
    let named : form_of (word_at c.args.words.now 1) ≡ Some c.in-Some.form = ap form_of (sym c.at.ensures) ∙ sym c.named.ensures ∙ c.in-Some.is in
    rw (sym c.passes.ensures ∙ c.if-passes.false, named, sym c.is_setup_form.ensures ∙ c.if-is_setup_form.true) c.take_setup_line.ensures

pub returns : goal.returns
returns g c =
    let named : form_of (word_at c.args.words.now 1) ≡ Some c.in-Some.form = ap form_of (sym c.at.ensures) ∙ sym c.named.ensures ∙ c.in-Some.is in
    rw (sym c.passes.ensures ∙ c.if-passes.false, named, sym c.is_setup_form.ensures ∙ c.if-is_setup_form.false) c.take_other_line-2.ensures
