use Rattle.std.proofs.Common.{◌≡◌, ◌<◌, ◌+◌, ◌∷◌, ◌++◌, ◌∙◌, ℕ, List, [], length, take, append_assoc, ap, ap₂, arith}
use Rattle.bus_words.specs.Text.{hex}
use Rattle.line_text.proofs.AlikeLaws.{hex-pair}
use Rattle.line_text.proofs.alike_lines.Lines.push_w.Goals as goal

pub returns : goal.returns
returns c =
    let start = c.self.inside.length in
    let digits = c.sixteen_digits.result in
    let long : length digits ≡ 16 = omega arith in
    let byte : c.from.result < 256 = omega arith in
    let pair = hex-pair c.from.result c.digits_of-first.result.0 c.digits_of-first.result.1 byte c.digits_of-first.ensures.first c.digits_of-first.ensures.second ∙ ap (hex 2) c.from.ensures in
    let word : List ℕ = 87 ∷ 32 ∷ [] in
    let last : List ℕ = 32 ∷ c.digits_of-first.result.0 ∷ c.digits_of-first.result.1 ∷ 32 ∷ c.flag_byte.result ∷ 10 ∷ [] in
    let whole : start + 24 ≡ start + 18 + 6 = omega arith in
    let front : start + 18 ≡ start + 2 + 16 = omega arith in
    ap (λ n. take n c.put-3.new.bytes) whole ∙ c.put-3.ensures ∙ ap (λ n. take n c.put-2.new.bytes ++ last) front
    ∙ ap (λ t. t ++ last) ((rw long at c.put-2.ensures) ∙ ap (λ t. t ++ digits) (c.put.ensures ∙ ap (λ t. t ++ word) c.self.view_is))
    ∙ append_assoc (c.args.self.now ++ word) digits last
    ∙ append_assoc c.args.self.now word (digits ++ last)
    ∙ ap₂ (λ d t. c.args.self.now ++ (word ++ (d ++ t))) c.sixteen_digits.ensures (ap₂ (λ p f. 32 ∷ (p ++ 32 ∷ (f ++ 10 ∷ []))) pair c.flag_byte.ensures)
