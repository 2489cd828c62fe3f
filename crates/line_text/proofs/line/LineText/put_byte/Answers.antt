use Rattle.std.proofs.Common.{◌∷◌, ◌++◌, ◌∙◌, ap, sym}
use Rattle.std.proofs.lemmas.Fmt.{decimal_digit}
use Rattle.line_text.proofs.line.LineText.put_byte.Goals as goal

pub returns-then-number-lt10-clause-text : goal.returns-then-number-lt10-clause-text
returns-then-number-lt10-clause-text c = c.put_two.ensures ∙ ap (λ text. text ++ 32 ∷ c.args.self.now) (sym (decimal_digit c.args.number c.if-number-lt10.true))
