use Rattle.std.proofs.Common.{◌≡◌, ◌∙◌, codes, arith, rules, refl, sym}
use Rattle.std.proofs.lemmas.Slice.Eq.{text_from_reads}
use Rattle.line_text.specs.Words.{word_at}
use Rattle.score_script.proofs.profiles.profile_at.Goals as goal

pub returns-in-bridge : goal.returns-in-bridge
returns-in-bridge c =
    let is : word_at c.args.words.now c.args.n ≡ codes "bridge" = sym c.at.ensures ∙ text_from_reads c.at.result.now (codes "bridge") (omega arith) (search rules) in
    rw is (refl, refl)

pub returns-in-tilelink : goal.returns-in-tilelink
returns-in-tilelink c =
    let is : word_at c.args.words.now c.args.n ≡ codes "tilelink" = sym c.at.ensures ∙ text_from_reads c.at.result.now (codes "tilelink") (omega arith) (search rules) in
    rw is (refl, refl)
