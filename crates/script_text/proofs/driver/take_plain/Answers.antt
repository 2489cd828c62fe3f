use Rattle.std.proofs.Common.{◌≡◌, List, ℕ, ap, arith, false, nat_lt, subst, sym, ◌∙◌}
use Rattle.std.proofs.lemmas.Bool.Decides.{nat_tests}
use Rattle.std.specs.Prelude.{◌&&◌}
use Rattle.line_text.specs.Words.{is_skipped, words_of}
use Rattle.script_text.specs.Steps.{TakesStep}
use Rattle.script_text.proofs.driver.take_plain.Goals as goal

pub returns : goal.returns
returns g c =
    let reading = g.S.Script.reading in
    let state = g.S.Script.state c.args.script.now in
    let shown : is_skipped (words_of c.args.text.now) ≡ false = ap is_skipped (sym c.read.ensures) ∙ sym c.are_skipped.ensures ∙ c.if-are_skipped.false in
    let early : nat_lt reading.most_lines c.args.number ≡ false = grind (arith, nat_tests, c.requires.number) in
    rw (c.requires.plain, early, shown)
    (subst
    (λ (words : List (List ℕ)). TakesStep reading (g.S.Script.grows && reading.wants state words) (reading.step state c.args.number words) g.S.Script.is_silent state (g.S.Script.state c.take_words.new.self)
    (g.W.Write.contents c.args.writer.now) (g.W.Write.contents c.take_words.new.writer) c.take_words.result)
    c.read.ensures c.take_words.ensures)
