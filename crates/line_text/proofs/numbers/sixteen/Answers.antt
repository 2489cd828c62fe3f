use Rattle.std.proofs.Common.{◌≡◌, ◌+◌, ◌*◌, ◌^◌, ◌∙◌, true, Some, drop, length, length-drop, take, sym, ap, refl, arith}
use Rattle.std.proofs.lemmas.List.{take_rest}
use Rattle.std.specs.Str.Parse.{digits_value}
use Rattle.line_text.proofs.NumberLaws.{all_digits, all_digits-parts, digits_value-parts, number_of-digits, number_of-parts}
use Rattle.line_text.proofs.numbers.sixteen.Goals as goal

pub returns-in_default : goal.returns-in_default
returns-in_default c = sym (number_of-parts 16 16 c.args.word.now 8 (rw c.in_default.ensures refl))

pub returns-in_default-eight_at_most : goal.returns-in_default-eight_at_most
returns-in_default-eight_at_most c =
    sym (number_of-parts 16 16 c.args.word.now 8 (rw (c.in-Some.ensures.0, sym (ap (all_digits 16) (take_rest c.args.word.now 8)) ∙ c.in_default-eight_at_most.ensures) refl))

pub returns : goal.returns
returns c =
    let word = c.args.word.now in
    let high = c.in-Some.ensures in
    let low = c.in-Some-eight_at_most.ensures in
    let rest = take_rest word 8 in
    let eight : length (drop 8 word) ≡ 8 = omega (arith, length-drop 8 word, c.requires) in
    let all : all_digits 16 word ≡ true = all_digits-parts 16 word 8 ∙ rw (high.0, sym (ap (all_digits 16) rest) ∙ low.0) refl in
    let parts : digits_value 16 word ≡ digits_value 16 (take 8 word) * 4294967296 + digits_value 16 (drop 8 word) =
    digits_value-parts 16 word 8 ∙ ap (λ n. digits_value 16 (take 8 word) * 16 ^ n + digits_value 16 (drop 8 word)) eight in
    let value : digits_value 16 word ≡ c.in-Some.high * 4294967296 + c.in-Some-eight_at_most.low = omega (arith, parts, high.1, low.1, ap (digits_value 16) rest) in
    ap Some (sym value) ∙ sym (number_of-digits 16 16 word (omega arith) (omega arith) all (omega (arith, value, high.2, low.2)))
