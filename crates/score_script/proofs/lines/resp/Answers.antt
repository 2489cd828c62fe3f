use Rattle.std.proofs.Common.{◌≡◌, ◌∙◌, codes, arith, rules, refl, sym}
use Rattle.std.proofs.lemmas.Slice.Eq.{text_from_reads}
use Rattle.line_text.specs.Words.{word_at}
use Rattle.score_script.proofs.lines.resp.Goals as goal

pub returns-in-EXOKAY : goal.returns-in-EXOKAY
returns-in-EXOKAY c =
    let is : word_at c.args.words.now c.args.n ≡ codes "EXOKAY" = sym c.at.ensures ∙ text_from_reads c.at.result.now (codes "EXOKAY") (omega arith) (search rules) in
    rw is (refl, refl)

pub returns-in-SLVERR : goal.returns-in-SLVERR
returns-in-SLVERR c =
    let is : word_at c.args.words.now c.args.n ≡ codes "SLVERR" = sym c.at.ensures ∙ text_from_reads c.at.result.now (codes "SLVERR") (omega arith) (search rules) in
    rw is (refl, refl)

pub returns-in-DECERR : goal.returns-in-DECERR
returns-in-DECERR c =
    let is : word_at c.args.words.now c.args.n ≡ codes "DECERR" = sym c.at.ensures ∙ text_from_reads c.at.result.now (codes "DECERR") (omega arith) (search rules) in
    rw is (refl, refl)
