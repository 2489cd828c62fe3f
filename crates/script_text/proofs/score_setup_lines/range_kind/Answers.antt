use Rattle.std.proofs.Common.{◌≡◌, ◌∙◌, codes, arith, rules, refl, sym}
use Rattle.std.proofs.lemmas.Slice.Eq.{text_from_reads}
use Rattle.line_text.specs.Words.{word_at}
use Rattle.script_text.proofs.score_setup_lines.range_kind.Goals as goal

pub returns-in-slverr : goal.returns-in-slverr
returns-in-slverr c =
    let is : word_at c.args.words.now 4 ≡ codes "slverr" = sym c.at.ensures ∙ text_from_reads c.at.result.now (codes "slverr") (omega arith) (search rules) in
    rw is (refl, refl)

pub returns-in-any : goal.returns-in-any
returns-in-any c =
    let is : word_at c.args.words.now 4 ≡ codes "any" = sym c.at.ensures ∙ text_from_reads c.at.result.now (codes "any") (omega arith) (search rules) in
    rw is (refl, refl)
