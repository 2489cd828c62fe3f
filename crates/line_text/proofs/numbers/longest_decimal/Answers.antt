use Rattle.std.proofs.Common.{◌≡◌, ◌+◌, ◌*◌, ◌∙◌, Some, sym, ap, refl, arith}
use Rattle.std.specs.Str.Parse.{digits_value}
use Rattle.line_text.proofs.NumberLaws.{longest, number_of-digits, number_of-none, number_of-parts}
use Rattle.line_text.proofs.numbers.longest_decimal.Goals as goal

pub returns-in_default : goal.returns-in_default
returns-in_default c = sym (number_of-parts 10 20 c.args.word.now 19 (rw c.in_default.ensures refl))

pub returns-then-front-last : goal.returns-then-front-last
returns-then-front-last c =
    let whole = longest c.args.word.now c.requires c.in-Some.ensures.0 c.in-Some-digit_of.ensures.0 in
    sym (number_of-none 10 20 c.args.word.now (λ some few all small. omega (arith, whole.1, c.in-Some.ensures.1, c.in-Some-digit_of.ensures.1, c.if-front-last.true)))

pub returns : goal.returns
returns c =
    let whole = longest c.args.word.now c.requires c.in-Some.ensures.0 c.in-Some-digit_of.ensures.0 in
    let value : digits_value 10 c.args.word.now ≡ c.in-Some.front * 10 + c.in-Some-digit_of.last = omega (arith, whole.1, c.in-Some.ensures.1, c.in-Some-digit_of.ensures.1) in
    ap Some (sym value) ∙ sym (number_of-digits 10 20 c.args.word.now (omega arith) (omega arith) whole.0 (omega (arith, value, c.if-front-last.false)))
