use Rattle.std.proofs.Common.{◌≡◌, ◌∙◌, codes, arith, rules, refl, sym}
use Rattle.std.proofs.lemmas.Slice.Eq.{text_from_reads}
use Rattle.line_text.specs.Words.{word_at}
use Rattle.score_script.proofs.profiles.errors_at.Goals as goal

pub returns-in-strict : goal.returns-in-strict
returns-in-strict c =
    let is : word_at c.args.words.now c.args.n ≡ codes "strict" = sym c.at.ensures ∙ text_from_reads c.at.result.now (codes "strict") (omega arith) (search rules) in
    rw is (refl, refl)
